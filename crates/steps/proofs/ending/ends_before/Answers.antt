-- `steps::ending::ends_before` meets its contract (rule 8).
use Rattle.steps.specs.Stopping.{ends_before}
use Rattle.steps.proofs.ending.ends_before.Goals as goal

pub returns : goal.returns
unfolding ends_before
returns c =
    rw c.nothing_left-rest.ensures
