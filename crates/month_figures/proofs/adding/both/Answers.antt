-- `month_figures::adding::both` meets its contract.
use Rattle.meaning.specs.Month.{together}
use Rattle.month_figures.proofs.adding.both.Goals as goal

pub returns : goal.returns
unfolding together
returns c =
    rw c.max.ensures
