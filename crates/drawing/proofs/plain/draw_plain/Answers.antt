-- `drawing::plain::draw_plain` meets its contract (rule 8, rule 13).
use Rattle.std.proofs.Common.{arith}
use Rattle.drawing.specs.PlainDrawn.{plain_start}
use Rattle.drawing.proofs.PassLoop.{goal_is}
use Rattle.drawing.proofs.PlainEnd.{ends-cut, ends-thin}
use Rattle.drawing.proofs.plain.draw_plain.Goals as goal

pub returns-then-s-wide : goal.returns-then-s-wide
returns-then-s-wide c =
    let g = goal_is c.args.s (plain_start c.args.s c.args.x) c.args.text.now c.args.at 0 0 c.args.events.now _ c.args.k c.args.x c.draw_plain_words-pen.result
    (ends-cut c.requires.1 c.requires.0.pass.settings.0 c.draw_plain_words-pen.ensures (omega (arith, c.if-s-wide.true))) in
    record { events_after = g.0; value = g.1 }

pub returns : goal.returns
returns c =
    let g = goal_is c.args.s (plain_start c.args.s c.args.x) c.args.text.now c.args.at 0 0 c.args.events.now _ c.args.k c.args.x c.put_one-last.result
    (ends-thin c.requires.1 c.requires.0.pass.settings.0 c.draw_plain_words-pen.ensures (omega (arith, c.if-s-wide.false)) _ _ c.put_one-last.ensures) in
    record { events_after = g.0; value = g.1 }
