-- `table::edited::moved_to` meets its contract (refusal 3, refusal 6, laying again).
use Rattle.std.proofs.Common.{arith}
use Rattle.meaning.specs.Edit.{moved}
use Rattle.table.proofs.edited.moved_to.Goals as goal

pub returns : goal.returns
unfolding moved
returns c =
    omega (arith, c.saturating_sub-replaced.ensures, c.saturating_sub.ensures)
