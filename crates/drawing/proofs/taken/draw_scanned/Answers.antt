-- `drawing::taken::draw_scanned` meets its contract (rule 8, rule 13).
use Rattle.std.proofs.Common.{ap, ◌∙◌, arith}
use Rattle.moves.specs.FineLaws.{times_bound}
use Rattle.ink.specs.Sheet.{sheet, drawn_on}
use Rattle.drawing.proofs.TakenEvents.{scanned_inside, scanned_print}
use Rattle.drawing.proofs.taken.draw_scanned.Goals as goal

pub put_one-requires : goal.put_one-requires
put_one-requires c = (
  omega (arith, c.requires.0.few),
  omega (arith, c.requires.0.narrow, (times_bound {n = 65535} c.args.word.chars.0 c.args.glyph c.requires.0.many c.requires.0.glyph)),
  omega (arith, c.requires.0.inside, c.requires.0.short),
  omega (arith, scanned_inside c.args.text.now c.args.from c.args.word c.requires.1, c.requires.0.short),
)

pub returns-then-word-eq0 : goal.returns-then-word-eq0
returns-then-word-eq0 c =
    c.put_one.ensures ∙ ap (drawn_on (sheet c.args.events.now c.args.pen)) (scanned_print c.args.text.now c.args.from c.args.word c.requires.1 c.args.glyph c.args.spaces c.if-word-eq0.true)
