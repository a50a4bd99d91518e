-- `rows::line::as_measured` meets its contract (rule 10).
use Rattle.placing.specs.Laying.{as_measured}
use Rattle.basis.specs.Order.{tests}
use Rattle.rows.proofs.line.as_measured.Goals as goal

pub returns-then-p-ne0 : goal.returns-then-p-ne0
unfolding as_measured
returns-then-p-ne0 c =
    search tests

pub returns-then-p-ne0-2 : goal.returns-then-p-ne0-2
unfolding as_measured
returns-then-p-ne0-2 c =
    search tests

pub returns : goal.returns
unfolding as_measured
returns c =
    search tests
