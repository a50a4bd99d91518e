-- `stands::stand::at_start` meets its contract (rule 10).
use Rattle.std.proofs.Common.{◌∙◌}
use Rattle.stands.proofs.stand.at_start.Goals as goal

pub returns : goal.returns
returns c =
    record { at-is = c.at_front.ensures.at-is; before-is = c.at_front.ensures.before-is; rest-is = c.at_front.ensures.rest-is ∙ c.nothing_left.ensures; known = c.at_front.ensures.known }
