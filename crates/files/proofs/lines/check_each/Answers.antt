use Rattle.std.proofs.Common.{sym, ap, ◌∙◌}
use Rattle.meaning.specs.WellFormed.{nothing, check_lines}
use Rattle.look.specs.OneLine.{before_of}
use Rattle.files.specs.Reading.{rows_all, rows-done, row-good, row_bad}
use Rattle.files.proofs.lines.check_each.Goals as goal

pub loop-k-init : goal.loop-k-init
loop-k-init c =
    ap (check_lines c.args.bytes.0 0 nothing) (rows_all c.args.file.now c.args.lines)

pub returns-then-not-entry_good : goal.returns-then-not-entry_good
returns-then-not-entry_good c =
    sym (row_bad c.args.file.now c.args.lines c.loop-k.k c.args.bytes.0 (before_of c.loop-k.prior) c.loop-k-test.true c.entry_at-e.result c.entry_at-e.ensures (sym c.entry_good.ensures ∙ c.if-not-entry_good.true)) ∙ c.loop-k.invariant

pub loop-k-preserved : goal.loop-k-preserved
loop-k-preserved c =
    sym (row-good c.args.file.now c.args.lines c.loop-k.k c.args.bytes.0 (before_of c.loop-k.prior) c.loop-k-test.true c.entry_at-e.result c.entry_at-e.ensures (sym c.entry_good.ensures ∙ c.if-not-entry_good.false)) ∙ c.loop-k.invariant

pub returns : goal.returns
returns c =
    sym (rows-done c.args.file.now c.args.lines c.loop-k.k c.args.bytes.0 (before_of c.loop-k.prior) c.loop-k-test.false) ∙ c.loop-k.invariant
