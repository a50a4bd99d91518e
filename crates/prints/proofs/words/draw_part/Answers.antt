-- `prints::words::draw_part` meets its contract (rule 8, rule 13).
use Rattle.std.proofs.Common.{◌*◌, ◌≤◌, ap, ◌∙◌, arith, length}
use Rattle.laws.specs.PassBounds.{size-take}
use Rattle.parser.specs.Lexing.{chars_from, part_of}
use Rattle.parser.specs.declared.part.Part.{Part}
use Rattle.moves.specs.FineLaws.{times_bound}
use Rattle.steps.specs.Lexed.{chars-within}
use Rattle.ink.specs.Sheet.{sheet, drawn_on}
use Rattle.prints.specs.PrintEvents.{part_print}
use Rattle.prints.proofs.words.draw_part.Goals as goal

pub put_one-requires : goal.put_one-requires
unfolding part_of
put_one-requires c = (
  omega (arith, c.requires.0.few),
  omega (arith, c.requires.0.narrow, times_bound {n = 65535} c.args.n c.args.glyph c.requires.0.many c.requires.0.glyph),
  omega (arith, c.requires.0.inside, c.requires.0.short),
  let ends : c.args.part.end.0 ≤ length c.args.text.now = omega (
    arith,
    ap (λ (q : Part). q.end.0) c.requires.1.0,
    size-take c.args.n (chars_from c.args.text.now c.args.at),
    chars-within c.args.text.now c.args.at,
    c.requires.0.inside,
  ) in
      omega (arith, c.requires.0.short),
)

pub returns-then-part-eq0 : goal.returns-then-part-eq0
returns-then-part-eq0 c =
    c.put_one.ensures
    ∙ ap (drawn_on (sheet c.args.events.now c.args.pen)) (part_print c.args.glyph c.args.spaces c.args.text.now c.args.at c.args.n c.args.part c.requires.1 c.if-part-eq0.true)
