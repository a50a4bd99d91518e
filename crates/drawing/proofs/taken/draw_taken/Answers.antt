-- `drawing::taken::draw_taken` meets its contract (rule 8, rule 13).
use Rattle.drawing.proofs.TakenEvents.{taken-put, taken_word, taken-room, taken-drew}
use Rattle.drawing.proofs.taken.draw_taken.Goals as goal

pub put_one-spaced-requires : goal.put_one-spaced-requires
put_one-spaced-requires c =
    taken-put c.requires.0 c.requires.1

pub draw_scanned-requires : goal.draw_scanned-requires
draw_scanned-requires c =
    (taken-room c.requires.0 c.requires.1 c.args.events.now _ _ c.put_one-spaced.ensures, taken_word c.requires.0 c.requires.1)

pub returns : goal.returns
returns c =
    taken-drew c.requires.0 c.requires.1 c.args.events.now _ _ c.put_one-spaced.ensures _ _ c.draw_scanned.ensures
