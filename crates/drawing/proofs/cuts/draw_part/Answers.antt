-- `drawing::cuts::draw_part` meets its contract (rule 8, rule 13).
use Rattle.std.proofs.Common.{◌∙◌, arith}
use Rattle.meaning.specs.Alignment.{plain_spaces}
use Rattle.ink.specs.Sheet.{sheet}
use Rattle.drawing.specs.PassDrawn.{pen_at}
use Rattle.drawing.specs.PlainDrawn.{plain_start}
use Rattle.drawing.proofs.PassLoop.{goal_is}
use Rattle.drawing.proofs.CutEvents.{cut-drawn, one-part}
use Rattle.drawing.proofs.cuts.draw_part.Goals as goal

pub returns-then-gluing-eq0 : goal.returns-then-gluing-eq0
returns-then-gluing-eq0 c =
    let g = goal_is c.args.s (plain_start c.args.s c.args.x) c.args.text.now c.args.at 0 0 c.args.events.now _ c.args.k c.args.x c.put_one-last.result
    (c.put_one-last.ensures ∙ one-part c.requires.0.pass c.requires.1 (omega (arith, c.if-gluing-eq0.true)) (sheet c.args.events.now (pen_at c.args.k c.args.x))) in
    record { events_after = g.0; value = g.1 }

pub returns : goal.returns
unfolding plain_spaces
returns c =
    let g = goal_is c.args.s (plain_start c.args.s c.args.x) c.args.text.now c.args.at 0 0 c.args.events.now _ c.args.k c.args.x c.draw_word-last.result
    (c.draw_word-last.ensures ∙ cut-drawn c.requires.0.pass c.requires.1 (sheet c.args.events.now (pen_at c.args.k c.args.x))) in
    record { events_after = g.0; value = g.1 }
