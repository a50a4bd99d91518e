-- `index::rising::check_index` meets its contract (refusal 10).
use Rattle.std.proofs.Common.{◌∙◌}
use Rattle.index.proofs.InOrder.{length-right, length_wrong}
use Rattle.index.proofs.rising.check_index.Goals as goal

pub returns-then-index-lines : goal.returns-then-index-lines
returns-then-index-lines c =
    length_wrong c.args.lines c.args.index.now c.if-index-lines.true

pub returns : goal.returns
returns c =
    c.check_ys.ensures ∙ length-right c.args.lines c.args.index.now c.if-index-lines.false
