-- `placing::entry::rest_in` meets its contract (rule 12).
use Rattle.placing.specs.Laying.{rest_in}
use Rattle.basis.specs.Choice.{pick}
use Rattle.basis.specs.Order.{tests}
use Rattle.placing.proofs.entry.rest_in.Goals as goal

pub returns-then-r-eq0 : goal.returns-then-r-eq0
unfolding rest_in pick
returns-then-r-eq0 c =
    search tests

pub returns : goal.returns
unfolding rest_in pick
returns c =
    search tests
