-- `drawing::inked::inked_at` meets its contract (rule 8, rule 13).
use Rattle.drawing.specs.DrawingOn.{inked_at}
use Rattle.drawing.proofs.inked.inked_at.Goals as goal

pub returns : goal.returns
unfolding inked_at
returns c =
    rw c.nothing_waits-waits.ensures
