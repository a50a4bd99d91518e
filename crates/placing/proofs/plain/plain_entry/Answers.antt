-- `placing::plain::plain_entry` meets its contract (rule 12).
use Rattle.placing.proofs.plain.plain_entry.Goals as goal

pub returns : goal.returns
returns c =
    c.ended_entry.ensures
