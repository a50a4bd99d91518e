use Rattle.std.proofs.Common.{refl, sym, subst, ◌∙◌, arith, List, ℕ}
use Rattle.meaning.specs.Line.{unmeasured}
use Rattle.meaning.specs.declared.settings.Settings.{Settings}
use Rattle.meaning.specs.declared.cursor.Place.{Place}
use Rattle.steps.specs.Pending.{pending, none-pending}
use Rattle.steps.specs.Running.{none-held}
use Rattle.steps.specs.declared.step.Resumed.{Resumed}
use Rattle.blanks.specs.BeyondLaws.{step_foresees}
use Rattle.drawing.specs.DrawingOn.{Strode}
use Rattle.drawing.specs.PastTokens.{Went}
use Rattle.drawing.specs.declared.inked.Inked.{Inked}
use Rattle.ink.specs.Sheet.{Sheet}
use Rattle.ink.specs.declared.pen.Pen.{Pen}
use Rattle.drawing.proofs.OnwardEvents.{strode_at, stays_foreseen}
use Rattle.drawing.proofs.PassLoop.{Drawing, drawing_strode, drawing_at, pen-room, drawing-ends, token_ready, drawing-stops, drawing-goes}
use Rattle.drawing.proofs.pass.draw_tokens.Goals as goal

-- After the strides and the marks of one round.
stood : {t : List ℕ} {s : Settings} {end : Sheet} {ev : List ℕ} {p : Place} {at : ℕ} {held : Resumed} {o : Pen} → Drawing t s end ev p at held o
    → {u : List ℕ} {g : Inked} → Strode s t held ev p at o u g → {v : List ℕ} {on : Inked} → Strode s t held u g.place g.at g.pen v on
    → Drawing t s end v on.place on.at held on.pen
stood d f g = drawing_strode (drawing_strode d f) g

pub returns-in_default : goal.returns-in_default
returns-in_default c =
    let d = stood c.loop-known.invariant.0 c.draw_unless-g.ensures.strode c.draw_past-far.ensures.strode in
    drawing-ends d (none-pending c.draw_past-far.result.at _ (sym c.first_token.ensures ∙ c.in_default.is))

pub look_after-ahead-requires : goal.look_after-ahead-requires
look_after-ahead-requires c =
    let r = (stood c.loop-known.invariant.0 c.draw_unless-g.ensures.strode c.draw_past-far.ensures.strode).ready.pass in
    let y = pending _ c.draw_past-far.result.at c.loop-known.held _ r.rest (sym c.first_token.ensures ∙ c.in-Some.is) in
    record { settings = r.settings; place = r.place; short = r.short; stands = y.stands; sees = rw y.first at c.draw_past-far.ensures.foresees_from }

pub past_token-past-requires : goal.past_token-past-requires
past_token-past-requires c =
    let d = stood c.loop-known.invariant.0 c.draw_unless-g.ensures.strode c.draw_past-far.ensures.strode in
    let y = pending _ c.draw_past-far.result.at c.loop-known.held _ d.ready.pass.rest (sym c.first_token.ensures ∙ c.in-Some.is) in
    (token_ready d c.in-Some.t y unmeasured refl, pen-room d, c.look_after-ahead.ensures)

pub returns-in_default-place : goal.returns-in_default-place
returns-in_default-place c =
    let d = stood c.loop-known.invariant.0 c.draw_unless-g.ensures.strode c.draw_past-far.ensures.strode in
    let y = pending _ c.draw_past-far.result.at c.loop-known.held _ d.ready.pass.rest (sym c.first_token.ensures ∙ c.in-Some.is) in
    let e = subst (Went c.args.s c.draw_past-far.result.place c.args.text.now c.draw_past-far.result.at c.in-Some.t) c.in_default-place.is c.past_token-past.ensures.went in
    drawing-stops d c.in-Some.t y unmeasured refl _ c.past_token-past.result.pen c.past_token-past.ensures.pen_after _ e.is

pub loop-known-smaller : goal.loop-known-smaller
loop-known-smaller c =
    let d = stood c.loop-known.invariant.0 c.draw_unless-g.ensures.strode c.draw_past-far.ensures.strode in
    let y = pending _ c.draw_past-far.result.at c.loop-known.held _ d.ready.pass.rest (sym c.first_token.ensures ∙ c.in-Some.is) in
    omega (arith, strode_at _ _ _ c.inked_at-on.ensures, y.stands.longer, y.stands.within, c.draw_past-far.ensures.strode.onward.forward, c.draw_unless-g.ensures.strode.onward.forward)

pub loop-known-preserved : goal.loop-known-preserved
loop-known-preserved c =
    let d = stood c.loop-known.invariant.0 c.draw_unless-g.ensures.strode c.draw_past-far.ensures.strode in
    let y = pending _ c.draw_past-far.result.at c.loop-known.held _ d.ready.pass.rest (sym c.first_token.ensures ∙ c.in-Some.is) in
    let e = subst (Went c.args.s c.draw_past-far.result.place c.args.text.now c.draw_past-far.result.at c.in-Some.t) c.in-Some-place.is c.past_token-past.ensures.went in (
      drawing_at c.inked_at-on.ensures (drawing-goes d c.in-Some.t y unmeasured refl _ c.past_token-past.result.pen c.past_token-past.ensures.pen_after _ _ _ e.is _ c.nothing_left-held.ensures),
      stays_foreseen c.args.s c.in-Some-place.beyond c.args.text.now c.in-Some.t.end.0 c.nothing_left-held.result c.look_after-ahead.result c.past_token-past.result.pen _ c.inked_at-on.ensures
          (rw (none-held _ c.in-Some.t.end.0 _ c.nothing_left-held.ensures) (step_foresees (token_ready d c.in-Some.t y unmeasured refl) _ _ _ e.is c.look_after-ahead.result c.look_after-ahead.ensures)),
    )
