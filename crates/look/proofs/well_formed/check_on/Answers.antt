use Rattle.std.proofs.Common.{◌*◌, sym, ◌∙◌}
use Rattle.meaning.specs.Table.{entry_numbers}
use Rattle.look.specs.Skipping.{before}
use Rattle.look.proofs.LineByLine.{lines-done, line_bad}
use Rattle.look.proofs.SkipTurns.{line_on}
use Rattle.look.proofs.well_formed.check_on.Goals as goal

pub returns-then-not-entry_good : goal.returns-then-not-entry_good
returns-then-not-entry_good c =
    sym (line_bad c.args.table.now c.args.lines c.loop-k.k c.loop-k-test.true c.read_entry-e.result
    c.read_entry-e.ensures c.args.bytes.0 (before c.args.table.now (entry_numbers * c.loop-k.k))
    (sym c.entry_good.ensures ∙ c.if-not-entry_good.true)) ∙ c.loop-k.invariant

pub loop-k-preserved : goal.loop-k-preserved
loop-k-preserved c =
    sym (line_on c.args.table.now c.args.lines c.args.bytes.0 c.loop-k.k c.loop-k-test.true
    c.read_entry-e.result c.read_entry-e.ensures
    (sym c.entry_good.ensures ∙ c.if-not-entry_good.false)) ∙ c.loop-k.invariant

pub returns : goal.returns
returns c =
    sym (lines-done c.args.table.now c.args.lines c.loop-k.k c.args.bytes.0
    (before c.args.table.now (entry_numbers * c.loop-k.k)) c.loop-k-test.false) ∙ c.loop-k.invariant
