use Rattle.std.proofs.Common.{subst, arith}
use Rattle.strides.specs.Marks.{JoinedIs}
use Rattle.strides.specs.MarkLaws.{joined-full, joined_numbers}
use Rattle.drawing.proofs.OnwardEvents.{drew-on}
use Rattle.drawing.proofs.MarkEvents.{joined-room, joined-drew}
use Rattle.drawing.proofs.marks.draw_marks.Goals as goal

pub draw_scanned-pen-requires : goal.draw_scanned-pen-requires
draw_scanned-pen-requires c =
    (joined-room c.loop-events.invariant.0.ready (subst (JoinedIs c.args.s c.loop-events.p c.args.text.now c.loop-events.at) c.in-Some.is c.next_joined.ensures) c.loop-events.events, (subst (JoinedIs c.args.s c.loop-events.p c.args.text.now c.loop-events.at) c.in-Some.is c.next_joined.ensures).word)

pub loop-events-smaller : goal.loop-events-smaller
loop-events-smaller c =
    omega (arith, (joined_numbers c.loop-events.invariant.0.ready.pass (subst (JoinedIs c.args.s c.loop-events.p c.args.text.now c.loop-events.at) c.in-Some.is c.next_joined.ensures)).0, (joined-drew c.loop-events.invariant.0.ready (subst (JoinedIs c.args.s c.loop-events.p c.args.text.now c.loop-events.at) c.in-Some.is c.next_joined.ensures) _ _ _ c.draw_scanned-pen.ensures).ready.pass.inside)

pub loop-events-preserved : goal.loop-events-preserved
loop-events-preserved c =
    let j = (subst (JoinedIs c.args.s c.loop-events.p c.args.text.now c.loop-events.at) c.in-Some.is c.next_joined.ensures) in
    (drew-on c.loop-events.invariant.0 (joined-drew c.loop-events.invariant.0.ready j _ _ _ c.draw_scanned-pen.ensures), joined-full c.loop-events.invariant.0.ready.pass j)
