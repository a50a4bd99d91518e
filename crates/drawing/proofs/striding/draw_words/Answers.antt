use Rattle.std.proofs.Common.{subst, arith}
use Rattle.strides.specs.Next.{Decides}
use Rattle.strides.specs.NextLaws.{taken-full, taken-numbers}
use Rattle.drawing.proofs.OnwardEvents.{drew-on, strode_to, strode_at, strode_full}
use Rattle.drawing.proofs.striding.draw_words.Goals as goal

pub loop-s-smaller : goal.loop-s-smaller
loop-s-smaller c =
    omega (arith, strode_at _ _ _ c.inked_at-g.ensures, taken-numbers (subst (Decides c.args.s c.draw_strides-far.result.place c.args.text.now c.draw_strides-far.result.at) c.in-Fits.is c.next_pair.ensures) c.draw_strides-far.ensures.strode.onward.ready.pass, c.draw_taken-after.ensures.ready.pass.inside, c.draw_strides-far.ensures.strode.onward.forward)

pub loop-s-preserved : goal.loop-s-preserved
loop-s-preserved c = (
  drew-on c.loop-s.invariant.0 (drew-on c.draw_strides-far.ensures.strode.onward (strode_to c.inked_at-g.ensures c.draw_taken-after.ensures).onward),
  strode_full _ _ _ c.inked_at-g.ensures (taken-full (subst (Decides c.args.s c.draw_strides-far.result.place c.args.text.now c.draw_strides-far.result.at) c.in-Fits.is c.next_pair.ensures)),
)
