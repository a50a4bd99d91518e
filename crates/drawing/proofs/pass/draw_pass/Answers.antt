-- `drawing::pass::draw_pass` meets its contract (rule 8, rule 9, rule 13).
use Rattle.std.proofs.Common.{arith}
use Rattle.blanks.specs.CutRests.{rest-few}
use Rattle.drawing.specs.DrawingOn.{inked_at}
use Rattle.drawing.proofs.PassLoop.{pass-ready, goal_is}
use Rattle.drawing.proofs.pass.draw_pass.Goals as goal

pub is_cut_rest-requires : goal.is_cut_rest-requires
is_cut_rest-requires c =
    (c.requires.0.pass.place, (rest-few c.requires.0.pass.rest c.requires.0.pass.short).0, (rest-few c.requires.0.pass.rest c.requires.0.pass.short).1, omega (arith, c.requires.0.pass.inside, c.requires.0.pass.short))

pub returns-then-is_cut_rest : goal.returns-then-is_cut_rest
returns-then-is_cut_rest c =
    let g = goal_is c.args.s c.args.start c.args.text.now c.args.from c.args.rest.chars.0 c.args.rest.count.0 c.args.events.now _ c.args.k c.args.x c.draw_rest-last.result
    c.draw_rest-last.ensures in
    record { events_after = g.0; value = g.1 }

pub draw_tokens-last-requires : goal.draw_tokens-last-requires
unfolding inked_at
draw_tokens-last-requires c =
    (rw c.inked_at-first.ensures (pass-ready c.args.text.now c.args.s c.args.start c.args.from c.args.rest c.args.x c.args.k c.requires.0), c.requires.1)

pub returns : goal.returns
unfolding inked_at
returns c =
    let e = rw c.inked_at-first.ensures at c.draw_tokens-last.ensures in
    let g = goal_is c.args.s c.args.start c.args.text.now c.args.from c.args.rest.chars.0 c.args.rest.count.0 c.args.events.now _ c.args.k c.args.x c.draw_tokens-last.result
    e in
    record { events_after = g.0; value = g.1 }
