use Rattle.std.proofs.Common.{max, ◌≡◌, sym, ap, ◌∙◌, arith}
use Rattle.steps.specs.Stepping.{ran_from}
use Rattle.steps.specs.Unrolled.{farther, farther-near}
use Rattle.steps.specs.Pending.{Pending, pending, none-pending}
use Rattle.steps.specs.Ready.{Ready}
use Rattle.steps.specs.Running.{none-fits, none-held, step_keeps, pass-goes, pass-stops, pass-ends}
use Rattle.strides.specs.GoesLaws.{waits-ready, waits_end}
use Rattle.blanks.specs.BeyondLaws.{step_foresees}
use Rattle.rows.proofs.pass.run_pass.Goals as goal

pub loop-known-init : goal.loop-known-init
loop-known-init c =
    (farther-near 0 _ (omega arith), c.requires.0, tt)

pub ends_waiting-requires : goal.ends_waiting-requires
ends_waiting-requires c =
    waits-ready c.strides_unless-g.ensures.goes c.if-g-ne0.true

pub returns-then-g-ne0 : goal.returns-then-g-ne0
returns-then-g-ne0 c =
    c.looked_to.ensures ∙ waits_end c.strides_unless-g.ensures.goes c.if-g-ne0.true _ c.ends_waiting.ensures _ ∙ c.loop-known.invariant.0

pub first_token-token-requires : goal.first_token-token-requires
first_token-token-requires c =
    (c.strides_unless-g.ensures.goes.onward.ready.short, c.strides_unless-g.ensures.goes.onward.ready.rest, c.requires.1)

pub overflow_add-end : goal.overflow_add-end
overflow_add-end c =
    record { fits = omega (arith, c.strides_unless-g.ensures.goes.onward.ready.inside, c.strides_unless-g.ensures.goes.onward.ready.short) }

pub returns-in_default : goal.returns-in_default
returns-in_default c =
    c.ends_before.ensures
    ∙ pass-ends c.args.s c.strides_unless-g.result.place _ c.strides_unless-g.result.at.0 c.loop-known.held.chars.0 c.loop-known.held.count.0 c.strides_unless-g.result.measure c.loop-known.reach
    (none-pending c.strides_unless-g.result.at.0 _ (sym c.first_token-token.ensures ∙ c.in_default.is)) _ c.max-far.ensures
    ∙ (let strode_here : farther c.loop-known.reach (ran_from c.args.s c.strides_unless-g.result.place c.args.text.now c.strides_unless-g.result.at.0 c.loop-known.held.chars.0 c.loop-known.held.count.0 c.strides_unless-g.result.measure) ≡ ran_from c.args.s c.args.start c.args.text.now c.args.from c.args.rest.chars.0 c.args.rest.count.0 c.args.m = ap (farther c.loop-known.reach) c.strides_unless-g.ensures.goes.onward.same ∙ c.loop-known.invariant.0 in strode_here)

pub look_after-ahead-requires : goal.look_after-ahead-requires
look_after-ahead-requires c =
    let y = (let pended_here : Pending c.args.text.now c.strides_unless-g.result.at.0 c.loop-known.held.chars.0 c.loop-known.held.count.0 c.in-Some.x = pending _ c.strides_unless-g.result.at.0 c.loop-known.held _ c.strides_unless-g.ensures.goes.onward.ready.rest
    (sym c.first_token-token.ensures ∙ c.in-Some.is) in pended_here) in
    record { settings = c.strides_unless-g.ensures.goes.onward.ready.settings; place = c.strides_unless-g.ensures.goes.onward.ready.place; short = c.strides_unless-g.ensures.goes.onward.ready.short; stands = y.stands; sees = rw y.first at c.strides_unless-g.ensures.foresees_from }

pub step_token-stepped-requires : goal.step_token-stepped-requires
step_token-stepped-requires c = (
  (let ready_here : Ready c.args.s c.strides_unless-g.result.place c.args.text.now c.strides_unless-g.result.at.0 c.in-Some.x c.strides_unless-g.result.measure = record {
    settings = c.strides_unless-g.ensures.goes.onward.ready.settings;
    place = c.strides_unless-g.ensures.goes.onward.ready.place;
    short = c.strides_unless-g.ensures.goes.onward.ready.short;
    stands = ((let pended_here : Pending c.args.text.now c.strides_unless-g.result.at.0 c.loop-known.held.chars.0 c.loop-known.held.count.0 c.in-Some.x = pending _ c.strides_unless-g.result.at.0 c.loop-known.held _ c.strides_unless-g.ensures.goes.onward.ready.rest
        (sym c.first_token-token.ensures ∙ c.in-Some.is) in pended_here)).stands;
    small = c.strides_unless-g.ensures.goes.onward.ready.small;
  } in ready_here),
  c.look_after-ahead.ensures,
)

pub loop-known-smaller : goal.loop-known-smaller
loop-known-smaller c =
    let y = ((let pended_here : Pending c.args.text.now c.strides_unless-g.result.at.0 c.loop-known.held.chars.0 c.loop-known.held.count.0 c.in-Some.x = pending _ c.strides_unless-g.result.at.0 c.loop-known.held _ c.strides_unless-g.ensures.goes.onward.ready.rest
    (sym c.first_token-token.ensures ∙ c.in-Some.is) in pended_here)).stands in
    omega (arith, y.longer, y.within, c.strides_unless-g.ensures.goes.onward.forward)

pub loop-known-preserved : goal.loop-known-preserved
loop-known-preserved c =
    let y = (let pended_here : Pending c.args.text.now c.strides_unless-g.result.at.0 c.loop-known.held.chars.0 c.loop-known.held.count.0 c.in-Some.x = pending _ c.strides_unless-g.result.at.0 c.loop-known.held _ c.strides_unless-g.ensures.goes.onward.ready.rest
    (sym c.first_token-token.ensures ∙ c.in-Some.is) in pended_here) in
    let e = sym c.step_token-stepped.ensures ∙ c.in-Go.is in
    let fine = step_keeps c.args.s c.strides_unless-g.result.place _ c.strides_unless-g.result.at.0 c.loop-known.held.chars.0 c.loop-known.held.count.0 c.in-Some.x c.strides_unless-g.result.measure c.strides_unless-g.ensures.goes.onward.ready.settings c.strides_unless-g.ensures.goes.onward.ready.place c.strides_unless-g.ensures.goes.onward.ready.small y _ _ _ e in
    let far = c.max-reach.ensures ∙ ap (max c.loop-known.reach) c.max.ensures in (
      pass-goes c.args.s c.strides_unless-g.result.place _ c.strides_unless-g.result.at.0 c.loop-known.held.chars.0 c.loop-known.held.count.0 c.strides_unless-g.result.measure c.loop-known.reach c.in-Some.x y _ _ _ e _ far _ c.nothing_left-held.ensures
          ∙ (let strode_here : farther c.loop-known.reach (ran_from c.args.s c.strides_unless-g.result.place c.args.text.now c.strides_unless-g.result.at.0 c.loop-known.held.chars.0 c.loop-known.held.count.0 c.strides_unless-g.result.measure) ≡ ran_from c.args.s c.args.start c.args.text.now c.args.from c.args.rest.chars.0 c.args.rest.count.0 c.args.m = ap (farther c.loop-known.reach) c.strides_unless-g.ensures.goes.onward.same ∙ c.loop-known.invariant.0 in strode_here),
      record { settings = c.strides_unless-g.ensures.goes.onward.ready.settings; place = fine.0; short = c.strides_unless-g.ensures.goes.onward.ready.short; inside = y.stands.within; rest = none-fits _ _ _ c.nothing_left-held.ensures; small = fine.1 },
      rw (none-held _ c.in-Some.x.end.0 _ c.nothing_left-held.ensures) (step_foresees ((let ready_here : Ready c.args.s c.strides_unless-g.result.place c.args.text.now c.strides_unless-g.result.at.0 c.in-Some.x c.strides_unless-g.result.measure = record {
        settings = c.strides_unless-g.ensures.goes.onward.ready.settings;
        place = c.strides_unless-g.ensures.goes.onward.ready.place;
        short = c.strides_unless-g.ensures.goes.onward.ready.short;
        stands = ((let pended_here : Pending c.args.text.now c.strides_unless-g.result.at.0 c.loop-known.held.chars.0 c.loop-known.held.count.0 c.in-Some.x = pending _ c.strides_unless-g.result.at.0 c.loop-known.held _ c.strides_unless-g.ensures.goes.onward.ready.rest
            (sym c.first_token-token.ensures ∙ c.in-Some.is) in pended_here)).stands;
        small = c.strides_unless-g.ensures.goes.onward.ready.small;
      } in ready_here)) _ _ _ e c.look_after-ahead.result c.look_after-ahead.ensures),
    )

pub returns-in-Stop : goal.returns-in-Stop
returns-in-Stop c =
    c.looked_to-in-Stop.ensures
    ∙ pass-stops c.args.s c.strides_unless-g.result.place _ c.strides_unless-g.result.at.0 c.loop-known.held.chars.0 c.loop-known.held.count.0 c.strides_unless-g.result.measure c.loop-known.reach c.in-Some.x ((let pended_here : Pending c.args.text.now c.strides_unless-g.result.at.0 c.loop-known.held.chars.0 c.loop-known.held.count.0 c.in-Some.x = pending _ c.strides_unless-g.result.at.0 c.loop-known.held _ c.strides_unless-g.ensures.goes.onward.ready.rest
    (sym c.first_token-token.ensures ∙ c.in-Some.is) in pended_here)) _
    (sym c.step_token-stepped.ensures ∙ c.in-Stop.is) _ c.max-in-Stop.ensures
    ∙ (let strode_here : farther c.loop-known.reach (ran_from c.args.s c.strides_unless-g.result.place c.args.text.now c.strides_unless-g.result.at.0 c.loop-known.held.chars.0 c.loop-known.held.count.0 c.strides_unless-g.result.measure) ≡ ran_from c.args.s c.args.start c.args.text.now c.args.from c.args.rest.chars.0 c.args.rest.count.0 c.args.m = ap (farther c.loop-known.reach) c.strides_unless-g.ensures.goes.onward.same ∙ c.loop-known.invariant.0 in strode_here)
