-- The public calls in Rattle, each with its own contract.
-- Assumes nothing.
use Rattle.promises.specs.Call.{Call, call_of}
use Rattle.checks.proofs.settings.check_settings.Kinds as check-settings-kinds
use Rattle.checks.proofs.settings.check_settings.Reads as check-settings-reads
use Rattle.checks.proofs.text.check_text.Kinds as check-text-kinds
use Rattle.checks.proofs.text.check_text.Reads as check-text-reads
use Rattle.tokenizer.proofs.tokenize.tokenize.Kinds as tokenize-kinds
use Rattle.tokenizer.proofs.tokenize.tokenize.Reads as tokenize-reads
use Rattle.layout.proofs.fresh.layout.Kinds as layout-kinds
use Rattle.layout.proofs.fresh.layout.Reads as layout-reads
use Rattle.layout.proofs.drawn.layout_with_events.Kinds as layout-with-events-kinds
use Rattle.layout.proofs.drawn.layout_with_events.Reads as layout-with-events-reads
use Rattle.frames.proofs.opening.open_text.Kinds as open-text-kinds
use Rattle.frames.proofs.opening.open_text.Reads as open-text-reads
use Rattle.frames.proofs.frame.one_line.Kinds as one-line-kinds
use Rattle.frames.proofs.frame.one_line.Reads as one-line-reads
use Rattle.look.proofs.affected.first_affected.Kinds as first-affected-kinds
use Rattle.look.proofs.affected.first_affected.Reads as first-affected-reads
use Rattle.again.proofs.relay.lay_again.Kinds as lay-again-kinds
use Rattle.again.proofs.relay.lay_again.Reads as lay-again-reads
use Rattle.heights.proofs.height.text_height.Kinds as text-height-kinds
use Rattle.heights.proofs.height.text_height.Reads as text-height-reads
use Rattle.heights.proofs.height.line_y.Kinds as line-y-kinds
use Rattle.heights.proofs.height.line_y.Reads as line-y-reads
use Rattle.index.proofs.making.make_index.Kinds as make-index-kinds
use Rattle.index.proofs.making.make_index.Reads as make-index-reads
use Rattle.index.proofs.making.make_index_again.Kinds as make-index-again-kinds
use Rattle.index.proofs.making.make_index_again.Reads as make-index-again-reads
use Rattle.index.proofs.finding.find_line.Kinds as find-line-kinds
use Rattle.index.proofs.finding.find_line.Reads as find-line-reads
use Rattle.files.proofs.writer.write_file.Kinds as write-file-kinds
use Rattle.files.proofs.writer.write_file.Reads as write-file-reads
use Rattle.files.proofs.reader.read_file.Kinds as read-file-kinds
use Rattle.files.proofs.reader.read_file.Reads as read-file-reads
use Rattle.choosing.proofs.choosing.choose.Kinds as choose-kinds
use Rattle.choosing.proofs.choosing.choose.Reads as choose-reads
use Rattle.paging.proofs.listed.lay_pages.Kinds as lay-pages-kinds
use Rattle.paging.proofs.listed.lay_pages.Reads as lay-pages-reads
use Rattle.paging.proofs.listed.list_again.Kinds as list-again-kinds
use Rattle.paging.proofs.listed.list_again.Reads as list-again-reads
use Rattle.columns.proofs.fitting.columns_fit.Kinds as columns-fit-kinds
use Rattle.columns.proofs.fitting.columns_fit.Reads as columns-fit-reads
use Rattle.columns.proofs.planning.plan_columns.Kinds as plan-columns-kinds
use Rattle.columns.proofs.planning.plan_columns.Reads as plan-columns-reads

-- checks::settings::check_settings
abbrev pub check-settings : Call
check-settings = call_of 0 check-settings-kinds.ps check-settings-kinds.r check-settings-reads.Asked check-settings-reads.Learnt

-- checks::text::check_text
abbrev pub check-text : Call
check-text = call_of 1 check-text-kinds.ps check-text-kinds.r check-text-reads.Asked check-text-reads.Learnt

-- tokenizer::tokenize::tokenize
abbrev pub tokenize : Call
tokenize = call_of 2 tokenize-kinds.ps tokenize-kinds.r tokenize-reads.Asked tokenize-reads.Learnt

-- layout::fresh::layout
abbrev pub layout : Call
layout = call_of 2 layout-kinds.ps layout-kinds.r layout-reads.Asked layout-reads.Learnt

-- layout::drawn::layout_with_events
abbrev pub layout_with_events : Call
layout_with_events = call_of 3 layout-with-events-kinds.ps layout-with-events-kinds.r layout-with-events-reads.Asked layout-with-events-reads.Learnt

-- frames::opening::open_text
abbrev pub open_text : Call
open_text = call_of 1 open-text-kinds.ps open-text-kinds.r open-text-reads.Asked open-text-reads.Learnt

-- frames::frame::one_line
abbrev pub one_line_lem : Call
one_line_lem = call_of 2 one-line-kinds.ps one-line-kinds.r one-line-reads.Asked one-line-reads.Learnt

-- table::affected::first_affected
abbrev pub first-affected : Call
first-affected = call_of 1 first-affected-kinds.ps first-affected-kinds.r first-affected-reads.Asked first-affected-reads.Learnt

-- again::relay::lay_again
abbrev pub lay_again : Call
lay_again = call_of 2 lay-again-kinds.ps lay-again-kinds.r lay-again-reads.Asked lay-again-reads.Learnt

-- heights::height::text_height
abbrev pub text-height : Call
text-height = call_of 1 text-height-kinds.ps text-height-kinds.r text-height-reads.Asked text-height-reads.Learnt

-- heights::height::line_y
abbrev pub line-y : Call
line-y = call_of 1 line-y-kinds.ps line-y-kinds.r line-y-reads.Asked line-y-reads.Learnt

-- index::making::make_index
abbrev pub make_index : Call
make_index = call_of 2 make-index-kinds.ps make-index-kinds.r make-index-reads.Asked make-index-reads.Learnt

-- index::making::make_index_again
abbrev pub make_index-again : Call
make_index-again = call_of 2 make-index-again-kinds.ps make-index-again-kinds.r make-index-again-reads.Asked make-index-again-reads.Learnt

-- index::finding::find_line
abbrev pub find_line : Call
find_line = call_of 2 find-line-kinds.ps find-line-kinds.r find-line-reads.Asked find-line-reads.Learnt

-- files::writer::write_file
abbrev pub write_file : Call
write_file = call_of 2 write-file-kinds.ps write-file-kinds.r write-file-reads.Asked write-file-reads.Learnt

-- files::reader::read_file
abbrev pub read-file : Call
read-file = call_of 3 read-file-kinds.ps read-file-kinds.r read-file-reads.Asked read-file-reads.Learnt

-- paging::choosing::choose
abbrev pub choose : Call
choose = call_of 1 choose-kinds.ps choose-kinds.r choose-reads.Asked choose-reads.Learnt

-- paging::listed::lay_pages
abbrev pub lay_pages : Call
lay_pages = call_of 3 lay-pages-kinds.ps lay-pages-kinds.r lay-pages-reads.Asked lay-pages-reads.Learnt

-- paging::listed::list_again
abbrev pub list_again : Call
list_again = call_of 2 list-again-kinds.ps list-again-kinds.r list-again-reads.Asked list-again-reads.Learnt

-- columns::fitting::columns_fit
abbrev pub columns_fit : Call
columns_fit = call_of 1 columns-fit-kinds.ps columns-fit-kinds.r columns-fit-reads.Asked columns-fit-reads.Learnt

-- columns::planning::plan_columns
abbrev pub plan_columns : Call
plan_columns = call_of 1 plan-columns-kinds.ps plan-columns-kinds.r plan-columns-reads.Asked plan-columns-reads.Learnt
