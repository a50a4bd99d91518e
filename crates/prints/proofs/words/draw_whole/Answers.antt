-- `prints::words::draw_whole` meets its contract (rule 8, rule 13).
use Rattle.std.proofs.Common.{◌∙◌, arith}
use Rattle.steps.specs.WordLaws.{WordAt, word-at}
use Rattle.ink.specs.Sheet.{sheet}
use Rattle.prints.proofs.WordEvents.{whole_part, word_room, word-takes}
use Rattle.prints.proofs.words.draw_whole.Goals as goal

pub draw_part-requires : goal.draw_part-requires
draw_part-requires c =
    (word_room c.requires.0 (word-at _ _ _ c.requires.0.stands c.requires.1) _ (omega arith), whole_part c.args.text.now c.args.at c.args.x (word-at _ _ _ c.requires.0.stands c.requires.1))

pub returns : goal.returns
returns c =
    c.draw_part.ensures ∙ word-takes (sheet c.args.events.now c.args.pen) c.args.s c.args.p c.args.text.now c.args.at c.args.x (word-at _ _ _ c.requires.0.stands c.requires.1) c.requires.2
