-- `steps::first::known_here` meets its contract (rule 8, rule 9).
use Rattle.steps.specs.Knowing.{known-fits}
use Rattle.steps.proofs.first.known_here.Goals as goal

pub returns : goal.returns
returns c =
    known-fits _ _ _ _ c.token_at.ensures c.known_at.ensures
