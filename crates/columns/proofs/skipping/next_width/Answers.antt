-- `columns::skipping::next_width` meets its contract.
use Rattle.basis.specs.Choice.{pick}
use Rattle.basis.specs.Order.{tests}
use Rattle.columns.specs.Skipping.{next_width}
use Rattle.columns.proofs.skipping.next_width.Goals as goal

pub returns-then-skips-w : goal.returns-then-skips-w
unfolding next_width pick
returns-then-skips-w c =
    search tests

pub returns-then-w-skips : goal.returns-then-w-skips
unfolding next_width pick
returns-then-w-skips c =
    search tests

pub returns : goal.returns
unfolding next_width pick
returns c =
    search tests
