-- `steps::first::known_from` meets its contract (rule 8, rule 9).
use Rattle.steps.specs.Knowing.{nothing-fits, known-fits}
use Rattle.steps.proofs.first.known_from.Goals as goal

pub returns-then-rest-ne0 : goal.returns-then-rest-ne0
returns-then-rest-ne0 c =
    nothing-fits _ _ c.nothing_known.ensures

pub returns-then-worth_knowing : goal.returns-then-worth_knowing
returns-then-worth_knowing c =
    known-fits _ _ _ _ c.known_token.ensures c.known_at.ensures

pub returns : goal.returns
returns c =
    nothing-fits _ _ c.nothing_known-2.ensures
