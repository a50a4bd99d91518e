-- `prints::tokens::draw_run` meets its contract (rule 8, rule 9, rule 13).
use Rattle.std.proofs.Common.{◌∙◌, arith}
use Rattle.ink.specs.Sheet.{sheet}
use Rattle.prints.proofs.RunEvents.{part-within, run-whole, run_none, run-part}
use Rattle.prints.proofs.tokens.draw_run.Goals as goal

pub returns-then-g : goal.returns-then-g
returns-then-g c =
    c.put_one.ensures ∙ run-whole (sheet c.args.events.now c.args.pen) c.args.text.now c.args.at c.args.x c.args.g c.if-g.true

pub returns-then-n-eq0 : goal.returns-then-n-eq0
returns-then-n-eq0 c =
    run_none (sheet c.args.events.now c.args.pen) c.args.text.now c.args.at c.args.x c.args.g c.if-g.false c.if-n-eq0.true

pub put_one-requires-2 : goal.put_one-requires-2
put_one-requires-2 c =
    omega (arith, c.requires.0.few, c.requires.0.narrow, part-within c.args.text.now c.args.at _ c.part_of-part.result c.part_of-part.ensures c.requires.2 c.requires.3)

pub returns : goal.returns
returns c =
    c.put_one-2.ensures
    ∙ run-part (sheet c.args.events.now c.args.pen) c.args.text.now c.args.at c.args.x c.args.g c.if-g.false c.if-n-eq0.false _ c.part_of-part.result c.min.ensures c.part_of-part.ensures
