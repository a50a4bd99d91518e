-- `placing::alignment::stays_plain` meets its contract (rule 6).
use Rattle.placing.proofs.alignment.stays_plain.Goals as goal

pub returns-in-CarriageReturn : goal.returns-in-CarriageReturn
returns-in-CarriageReturn c =
    rw c.in-CarriageReturn.is

pub returns-in-LineBreak : goal.returns-in-LineBreak
returns-in-LineBreak c =
    rw c.in-LineBreak.is
