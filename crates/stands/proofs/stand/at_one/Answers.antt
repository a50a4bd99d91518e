-- `stands::stand::at_one` meets its contract (rule 10).
use Rattle.std.proofs.Common.{refl}
use Rattle.steps.specs.Knowing.{nothing-fits}
use Rattle.stands.proofs.stand.at_one.Goals as goal

pub returns : goal.returns
returns c =
    record { at-is = refl; before-is = refl; rest-is = refl; known = nothing-fits _ _ c.nothing_known-known.ensures }
