-- `drawing::marks::draw_zero` meets its contract (rule 8, rule 13).
use Rattle.drawing.proofs.MarkEvents.{zero-put, zero-drew}
use Rattle.drawing.proofs.marks.draw_zero.Goals as goal

pub put_one-requires : goal.put_one-requires
put_one-requires c =
    zero-put c.requires.0 c.requires.1 c.requires.2

pub returns : goal.returns
returns c =
    zero-drew c.requires.0 c.requires.1 c.requires.2 _ _ _ c.put_one.ensures
