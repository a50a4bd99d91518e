use Rattle.drawing.proofs.OnwardEvents.{strode_to, strode_full}
use Rattle.drawing.proofs.marks.draw_zeros.Goals as goal

pub returns : goal.returns
returns c =
    record { strode = strode_to c.inked_at.ensures c.loop-s.invariant; empty_value = strode_full _ _ _ c.inked_at.ensures c.requires.1 }
