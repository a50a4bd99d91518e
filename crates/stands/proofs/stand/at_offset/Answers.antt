-- `stands::stand::at_offset` meets its contract (rule 10).
use Rattle.steps.specs.Knowing.{nothing-fits, between_none}
use Rattle.stands.proofs.stand.at_offset.Goals as goal

pub stand_at-requires : goal.stand_at-requires
stand_at-requires c =
    record { text_len_bound = (c.requires.0, c.requires.1, nothing-fits _ _ c.nothing_known.ensures); between = between_none _ c.args.at.0 }

pub returns : goal.returns
returns c =
    c.stand_at.ensures
