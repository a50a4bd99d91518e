-- `pairs::within::kept_within` meets its contract (rule 2).
use Rattle.basis.specs.Choice.{pick}
use Rattle.basis.specs.Order.{tests}
use Rattle.pairs.specs.Within.{kept_within}
use Rattle.pairs.proofs.within.kept_within.Goals as goal

pub returns-then-most-x : goal.returns-then-most-x
unfolding kept_within pick
returns-then-most-x c =
    search tests

pub returns : goal.returns
unfolding kept_within pick
returns c =
    search tests
