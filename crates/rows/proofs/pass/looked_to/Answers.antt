-- `rows::pass::looked_to` meets its contract (rule 8, rule 9, rule 12).
use Rattle.steps.specs.Unrolled as unrolled
use Rattle.rows.proofs.pass.looked_to.Goals as goal

pub returns : goal.returns
unfolding unrolled.farther
returns c =
    rw c.max-far.ensures
