use Rattle.std.proofs.Common.{refl, sym, subst, arith}
use Rattle.meaning.specs.declared.line.Measure.{Measure}
use Rattle.steps.specs.Unrolled.{nothing_resumed}
use Rattle.strides.specs.Strides.{Onward, Waits, Goes}
use Rattle.strides.specs.Next.{Decides, Taking}
use Rattle.strides.specs.OnwardLaws.{unmeasured-ready, onward-on}
use Rattle.strides.specs.NextLaws.{taken-full, taken-numbers, taken-ready, taken-onward}
use Rattle.strides.specs.GoesLaws.{goes_to, goes_wait, goes-here, goes_on_lem, goes_at, goes-full}
use Rattle.strides.proofs.strides.words_on.Goals as goal

pub returns-then-first : goal.returns-then-first
returns-then-first c =
    c.first_word-g.ensures

pub loop-far-init : goal.loop-far-init
loop-far-init c =
    (goes-here c.first_word-g.ensures, c.if-first.false)

pub pair_at-pair-requires : goal.pair_at-pair-requires
pair_at-pair-requires c =
    c.loop-far.invariant.0.onward.ready.short

pub next_pair-requires : goal.next_pair-requires
next_pair-requires c =
    ((unmeasured-ready c.loop-far.invariant.0.onward.ready, c.loop-far.invariant.1), c.pair_at-pair.ensures)

pub marks_on-far-requires : goal.marks_on-far-requires
marks_on-far-requires c =
    (c.loop-far.invariant.0.onward.ready, c.loop-far.invariant.1)

pub returns-then-far-g : goal.returns-then-far-g
returns-then-far-g c =
    goes_on_lem c.first_word-g.ensures.onward (goes_on_lem c.loop-far.invariant.0.onward c.marks_on-far.ensures.goes)

pub loop-far-smaller-in-Nothing : goal.loop-far-smaller-in-Nothing
loop-far-smaller-in-Nothing c =
    omega (arith, c.marks_on-far.ensures.goes.onward.forward, c.marks_on-far.ensures.goes.onward.ready.inside, c.if-far-g.false)

pub loop-far-preserved-in-Nothing : goal.loop-far-preserved-in-Nothing
loop-far-preserved-in-Nothing c =
    (goes_on_lem c.loop-far.invariant.0.onward c.marks_on-far.ensures.goes, c.marks_on-far.ensures.empty_value)

pub stands_at-requires : goal.stands_at-requires
stands_at-requires c =
    omega (arith, c.loop-far.invariant.0.onward.ready.inside, c.loop-far.invariant.0.onward.ready.short)

pub returns-in-TooWide : goal.returns-in-TooWide
returns-in-TooWide c =
    goes_wait _ _ c.stands_at.ensures (onward-on c.first_word-g.ensures.onward c.loop-far.invariant.0.onward) refl (subst (Decides c.args.s c.loop-far.g.place c.args.text.now c.loop-far.g.at.0) c.in-TooWide.is c.next_pair.ensures)

pub measure_taken-after-requires : goal.measure_taken-after-requires
measure_taken-after-requires c =
    taken-ready (subst (Decides c.args.s c.loop-far.g.place c.args.text.now c.loop-far.g.at.0) c.in-Fits.is c.next_pair.ensures) c.loop-far.invariant.0.onward.ready

pub stands_at-g-requires : goal.stands_at-g-requires
stands_at-g-requires c =
    omega (arith, taken-numbers (subst (Decides c.args.s c.loop-far.g.place c.args.text.now c.loop-far.g.at.0) c.in-Fits.is c.next_pair.ensures) c.loop-far.invariant.0.onward.ready)

pub loop-far-smaller : goal.loop-far-smaller
loop-far-smaller c =
    omega (
      arith,
      goes_at _ _ _ _ c.stands_at-g.ensures,
      taken-numbers (subst (Decides c.args.s c.loop-far.g.place c.args.text.now c.loop-far.g.at.0) c.in-Fits.is c.next_pair.ensures) c.loop-far.invariant.0.onward.ready,
      (goes_to _ c.nothing_waits.ensures c.stands_at-g.ensures
          (subst (λ (m : Measure). Onward c.args.s c.loop-far.g.place c.args.text.now c.loop-far.g.at.0 nothing_resumed c.loop-far.g.measure c.in-Fits.t.place c.in-Fits.t.word.end.0 m)
          (sym c.measure_taken-after.ensures) (taken-onward (subst (Decides c.args.s c.loop-far.g.place c.args.text.now c.loop-far.g.at.0) c.in-Fits.is c.next_pair.ensures) c.loop-far.invariant.0.onward.ready))).onward.ready.inside,
    )

pub loop-far-preserved : goal.loop-far-preserved
loop-far-preserved c = (
  goes_on_lem c.loop-far.invariant.0.onward (goes_to _ c.nothing_waits.ensures c.stands_at-g.ensures
      (subst (λ (m : Measure). Onward c.args.s c.loop-far.g.place c.args.text.now c.loop-far.g.at.0 nothing_resumed c.loop-far.g.measure c.in-Fits.t.place c.in-Fits.t.word.end.0 m)
      (sym c.measure_taken-after.ensures) (taken-onward (subst (Decides c.args.s c.loop-far.g.place c.args.text.now c.loop-far.g.at.0) c.in-Fits.is c.next_pair.ensures) c.loop-far.invariant.0.onward.ready))),
  goes-full _ _ _ _ c.stands_at-g.ensures (taken-full (subst (Decides c.args.s c.loop-far.g.place c.args.text.now c.loop-far.g.at.0) c.in-Fits.is c.next_pair.ensures)),
)
