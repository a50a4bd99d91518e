-- The public calls for C, each with its own contract.
-- Assumes nothing.
use Rattle.promises.specs.Call.{Call, call_of}
use Rattle.bisquemop.proofs.bisquemop_check_settings.Kinds as c-check-settings-kinds
use Rattle.bisquemop.proofs.bisquemop_check_settings.Reads as c-check-settings-reads
use Rattle.bisquemop.proofs.bisquemop_check_text.Kinds as c-check-text-kinds
use Rattle.bisquemop.proofs.bisquemop_check_text.Reads as c-check-text-reads
use Rattle.bisquemop.proofs.bisquemop_tokens.Kinds as c-tokens-kinds
use Rattle.bisquemop.proofs.bisquemop_tokens.Reads as c-tokens-reads
use Rattle.bisquemop.proofs.bisquemop_layout.Kinds as c-layout-kinds
use Rattle.bisquemop.proofs.bisquemop_layout.Reads as c-layout-reads
use Rattle.bisquemop.proofs.bisquemop_layout_events.Kinds as c-layout-events-kinds
use Rattle.bisquemop.proofs.bisquemop_layout_events.Reads as c-layout-events-reads
use Rattle.bisquemop.proofs.bisquemop_open.Kinds as c-open-kinds
use Rattle.bisquemop.proofs.bisquemop_open.Reads as c-open-reads
use Rattle.bisquemop.proofs.bisquemop_one_line.Kinds as c-one-line-kinds
use Rattle.bisquemop.proofs.bisquemop_one_line.Reads as c-one-line-reads
use Rattle.bisquemop.proofs.bisquemop_first_affected.Kinds as c-first-affected-kinds
use Rattle.bisquemop.proofs.bisquemop_first_affected.Reads as c-first-affected-reads
use Rattle.bisquemop.proofs.bisquemop_lay_again.Kinds as c-lay-again-kinds
use Rattle.bisquemop.proofs.bisquemop_lay_again.Reads as c-lay-again-reads
use Rattle.bisquemop.proofs.bisquemop_height.Kinds as c-height-kinds
use Rattle.bisquemop.proofs.bisquemop_height.Reads as c-height-reads
use Rattle.bisquemop.proofs.bisquemop_line_y.Kinds as c-line-y-kinds
use Rattle.bisquemop.proofs.bisquemop_line_y.Reads as c-line-y-reads
use Rattle.bisquemop.proofs.bisquemop_index.Kinds as c-index-kinds
use Rattle.bisquemop.proofs.bisquemop_index.Reads as c-index-reads
use Rattle.bisquemop.proofs.bisquemop_index_again.Kinds as c-index-again-kinds
use Rattle.bisquemop.proofs.bisquemop_index_again.Reads as c-index-again-reads
use Rattle.bisquemop.proofs.bisquemop_find_line.Kinds as c-find-line-kinds
use Rattle.bisquemop.proofs.bisquemop_find_line.Reads as c-find-line-reads
use Rattle.bisquemop.proofs.bisquemop_write_file.Kinds as c-write-file-kinds
use Rattle.bisquemop.proofs.bisquemop_write_file.Reads as c-write-file-reads
use Rattle.bisquemop.proofs.bisquemop_read_file.Kinds as c-read-file-kinds
use Rattle.bisquemop.proofs.bisquemop_read_file.Reads as c-read-file-reads
use Rattle.bisquemop.proofs.bisquemop_choose.Kinds as c-choose-kinds
use Rattle.bisquemop.proofs.bisquemop_choose.Reads as c-choose-reads
use Rattle.bisquemop.proofs.bisquemop_pages.Kinds as c-pages-kinds
use Rattle.bisquemop.proofs.bisquemop_pages.Reads as c-pages-reads
use Rattle.bisquemop.proofs.bisquemop_pages_again.Kinds as c-pages-again-kinds
use Rattle.bisquemop.proofs.bisquemop_pages_again.Reads as c-pages-again-reads
use Rattle.bisquemop.proofs.bisquemop_columns_fit.Kinds as c-columns-fit-kinds
use Rattle.bisquemop.proofs.bisquemop_columns_fit.Reads as c-columns-fit-reads
use Rattle.bisquemop.proofs.bisquemop_columns_plan.Kinds as c-columns-plan-kinds
use Rattle.bisquemop.proofs.bisquemop_columns_plan.Reads as c-columns-plan-reads

-- bisquemop_check_settings
abbrev pub c-check-settings : Call
c-check-settings = call_of 1 c-check-settings-kinds.ps c-check-settings-kinds.r c-check-settings-reads.Asked c-check-settings-reads.Learnt

-- bisquemop_check_text
abbrev pub c-check-text : Call
c-check-text = call_of 2 c-check-text-kinds.ps c-check-text-kinds.r c-check-text-reads.Asked c-check-text-reads.Learnt

-- bisquemop_tokens
abbrev pub c-tokens : Call
c-tokens = call_of 3 c-tokens-kinds.ps c-tokens-kinds.r c-tokens-reads.Asked c-tokens-reads.Learnt

-- bisquemop_layout
abbrev pub c-layout : Call
c-layout = call_of 3 c-layout-kinds.ps c-layout-kinds.r c-layout-reads.Asked c-layout-reads.Learnt

-- bisquemop_layout_events
abbrev pub c-layout-events : Call
c-layout-events = call_of 5 c-layout-events-kinds.ps c-layout-events-kinds.r c-layout-events-reads.Asked c-layout-events-reads.Learnt

-- bisquemop_open
abbrev pub c_open : Call
c_open = call_of 2 c-open-kinds.ps c-open-kinds.r c-open-reads.Asked c-open-reads.Learnt

-- bisquemop_one_line
abbrev pub c-one-line : Call
c-one-line = call_of 5 c-one-line-kinds.ps c-one-line-kinds.r c-one-line-reads.Asked c-one-line-reads.Learnt

-- bisquemop_first_affected
abbrev pub c-first-affected : Call
c-first-affected = call_of 2 c-first-affected-kinds.ps c-first-affected-kinds.r c-first-affected-reads.Asked c-first-affected-reads.Learnt

-- bisquemop_lay_again
abbrev pub c_lay_again : Call
c_lay_again = call_of 4 c-lay-again-kinds.ps c-lay-again-kinds.r c-lay-again-reads.Asked c-lay-again-reads.Learnt

-- bisquemop_height
abbrev pub c-height : Call
c-height = call_of 2 c-height-kinds.ps c-height-kinds.r c-height-reads.Asked c-height-reads.Learnt

-- bisquemop_line_y
abbrev pub c-line-y : Call
c-line-y = call_of 3 c-line-y-kinds.ps c-line-y-kinds.r c-line-y-reads.Asked c-line-y-reads.Learnt

-- bisquemop_index
abbrev pub c-index : Call
c-index = call_of 3 c-index-kinds.ps c-index-kinds.r c-index-reads.Asked c-index-reads.Learnt

-- bisquemop_index_again
abbrev pub c-index-again : Call
c-index-again = call_of 3 c-index-again-kinds.ps c-index-again-kinds.r c-index-again-reads.Asked c-index-again-reads.Learnt

-- bisquemop_find_line
abbrev pub c_find_line : Call
c_find_line = call_of 3 c-find-line-kinds.ps c-find-line-kinds.r c-find-line-reads.Asked c-find-line-reads.Learnt

-- bisquemop_write_file
abbrev pub c_write_file : Call
c_write_file = call_of 3 c-write-file-kinds.ps c-write-file-kinds.r c-write-file-reads.Asked c-write-file-reads.Learnt

-- bisquemop_read_file
abbrev pub c-read-file : Call
c-read-file = call_of 5 c-read-file-kinds.ps c-read-file-kinds.r c-read-file-reads.Asked c-read-file-reads.Learnt

-- bisquemop_choose
abbrev pub c-choose : Call
c-choose = call_of 4 c-choose-kinds.ps c-choose-kinds.r c-choose-reads.Asked c-choose-reads.Learnt

-- bisquemop_pages
abbrev pub c-pages : Call
c-pages = call_of 5 c-pages-kinds.ps c-pages-kinds.r c-pages-reads.Asked c-pages-reads.Learnt

-- bisquemop_pages_again
abbrev pub c-pages-again : Call
c-pages-again = call_of 3 c-pages-again-kinds.ps c-pages-again-kinds.r c-pages-again-reads.Asked c-pages-again-reads.Learnt

-- bisquemop_columns_fit
abbrev pub c-columns_fit : Call
c-columns_fit = call_of 2 c-columns-fit-kinds.ps c-columns-fit-kinds.r c-columns-fit-reads.Asked c-columns-fit-reads.Learnt

-- bisquemop_columns_plan
abbrev pub c-columns_plan : Call
c-columns_plan = call_of 2 c-columns-plan-kinds.ps c-columns-plan-kinds.r c-columns-plan-reads.Asked c-columns-plan-reads.Learnt
