use Rattle.std.proofs.Common.{subst, arith}
use Rattle.strides.specs.Next.{Decides}
use Rattle.strides.specs.NextLaws.{taken-numbers}
use Rattle.drawing.proofs.OnwardEvents.{strode_to, strode_full}
use Rattle.drawing.proofs.striding.draw_strides.Goals as goal

pub returns-in-Nothing : goal.returns-in-Nothing
returns-in-Nothing c =
    record { strode = strode_to c.inked_at.ensures c.loop-waits.invariant.0; empty_value = strode_full _ _ _ c.inked_at.ensures c.loop-waits.invariant.1 }

pub loop-waits-smaller : goal.loop-waits-smaller
loop-waits-smaller c =
    omega (arith, taken-numbers (subst (Decides c.args.s c.loop-waits.place c.args.text.now c.loop-waits.at) c.in-Fits.is c.next_stride.ensures) c.loop-waits.invariant.0.ready.pass, c.draw_taken-pen.ensures.ready.pass.inside)
