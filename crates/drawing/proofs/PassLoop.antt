-- The loop over a line's tokens: what is drawn when the rest is drawn stays the same.
-- Assumes nothing.
use Prim.Native.Nat.{ℕ, ◌+◌}
use mathlib.Core.Path.{◌≡◌, refl, sym, ap, ◌∙◌}
use mathlib.Core.List.{List, []}
use native.Mathlib.Omega.{arith}
use lib.ListN.{length}
use Rattle.meaning.specs.Line.{held_tokens}
use Rattle.meaning.specs.declared.settings.Settings.{Settings}
use Rattle.meaning.specs.declared.cursor.Place.{Place}
use Rattle.meaning.specs.declared.counts.Offset.{Offset}
use Rattle.meaning.specs.declared.line.Measure.{Measure}
use Rattle.laws.specs.Measuring.{printed_at}
use Rattle.parser.specs.Lexing.{chars_from}
use Rattle.parser.specs.declared.lexeme.Lexeme.{Lexeme}
use Rattle.steps.specs.Ready.{Ready, step_from}
use Rattle.steps.specs.Pending.{Pending}
use Rattle.steps.specs.Running.{none-fits, step_keeps}
use Rattle.strides.specs.Strides.{Waits}
use Rattle.steps.specs.Unrolled.{nothing_resumed}
use Rattle.steps.specs.declared.step.Resumed.{Resumed}
use Rattle.steps.specs.declared.step.Ended.{Ended}
use Rattle.steps.specs.declared.step.Stepped.TheVariants.{Go, Stop}
use Rattle.table.specs.Numbers.{put_events}
use Rattle.drawing.specs.Drawn.{drawn_from, events_from}
use Rattle.ink.specs.Sheet.{Sheet, sheet, drawn_on, on_append, on_none, on-is, pen-after}
use Rattle.prints.specs.TokenDrawn.{tok_drawn, PenRoom}
use Rattle.drawing.specs.PassDrawn.{DrawRoom, pen_at, none-drawn, go-drawn, stop-drawn}
use Rattle.drawing.specs.DrawnBounds.{tok-few}
use Rattle.drawing.specs.DrawingOn.{PenReady, inked_at, Strode}
use Rattle.ink.specs.declared.pen.Pen.{Pen}
use Rattle.drawing.specs.declared.inked.Inked.{Inked}
use Rattle.prints.specs.TokenEvents.{tok-narrow}
use Rattle.drawing.proofs.OnwardEvents.{pen-rest}

-- Between two tokens, the sheet at the end being known.
pub record Drawing (t : List ℕ) (s : Settings) (goal : Sheet) (ev : List ℕ) (p : Place) (at : ℕ) (held : Resumed) (o : Pen) : Type 0 where
  pub draws : drawn_on (sheet ev o) (drawn_from s p t at held.chars.0 held.count.0) ≡ goal
  pub ready : PenReady s p t at held o

-- Where a line begins to be drawn.
pub pass-ready : (t : List ℕ) (s : Settings) (p : Place) (at : ℕ) (r : Resumed) (x k : ℕ) → DrawRoom s p t at r x k → PenReady s p t at r (pen_at k x)
pass-ready t s p at r x k h = record { pass = h.pass; few = omega (arith, h.few); narrow = omega (arith, h.narrow) }

-- ---- strides

module _ {t : List ℕ} {s : Settings} {goal : Sheet} {ev : List ℕ} {p : Place} {at : ℕ} {held : Resumed} {o : Pen} (d : Drawing t s goal ev p at held o)
    {u : List ℕ} {g : Inked} (f : Strode s t held ev p at o u g)
  where
    pub drawing_strode : Drawing t s goal u g.place g.at held g.pen
    drawing_strode = record { draws = f.onward.same ∙ d.draws; ready = f.onward.ready }

    module _ (w : g.waits.next.0 ≡ 0 → ⊥) where
      pub waits-ready : PenReady s g.place t g.at nothing_resumed g.pen × Waits s g.place t g.at g.waits
      waits-ready = (pen-rest f.onward.ready (f.waits w).1, (f.waits w).0)

      pub drawing-waits : (z : Sheet) → z ≡ drawn_on (sheet u g.pen) (drawn_from s g.place t g.at 0 0) → z ≡ goal
      drawing-waits z e =
          let k = f.waits w in
          e ∙ (λ i. drawn_on (sheet u g.pen) (drawn_from s g.place t g.at (sym k.1 i) (sym k.2 i))) ∙ drawing_strode.draws

-- Where it stands.
pub drawing_at : {t : List ℕ} {s : Settings} {goal : Sheet} {ev : List ℕ} {q : Place} {to : ℕ} {held : Resumed} {v : Pen} {g : Inked} → g ≡ inked_at q to v
    → Drawing t s goal ev q to held v → Drawing t s goal ev g.place g.at held g.pen
unfolding inked_at
drawing_at is d = rw is d

-- ---- a token

module _ {t : List ℕ} {s : Settings} {goal : Sheet} {ev : List ℕ} {p : Place} {at : ℕ} {held : Resumed} {o : Pen} (d : Drawing t s goal ev p at held o) where
  pub pen-room : PenRoom o
  pen-room =
      let r = d.ready in
      record {
        few = omega (arith, r.few, r.pass.inside, r.pass.short);
        narrow = omega (arith, r.narrow, r.pass.inside, r.pass.short);
      }

  pub drawing-ends : held_tokens held.chars.0 held.count.0 (chars_from t at) ≡ [] → sheet ev o ≡ goal
  drawing-ends e =
      sym (on_none (sheet ev o)) ∙ ap (drawn_on (sheet ev o)) (sym (none-drawn s p t at held.chars.0 held.count.0 e)) ∙ d.draws

  module _ (x : Lexeme) (y : Pending t at held.chars.0 held.count.0 x) (none : Measure) (n : none ≡ printed_at 0 0) where
    pub token_ready : Ready s p t at x none
    token_ready =
        let r = d.ready.pass in
        rw n (record { settings = r.settings; place = r.place; short = r.short; stands = y.stands; small = r.small })

    module _ (u : List ℕ) (r : Pen) (e : sheet u r ≡ drawn_on (sheet ev o) (tok_drawn s p t at x)) where
      pub drawing-stops : (z : Ended) → step_from s p t at x none ≡ Stop z → sheet u r ≡ goal
      drawing-stops z f =
          e ∙ ap (drawn_on (sheet ev o)) (sym (stop-drawn s p t at held.chars.0 held.count.0 x none y z f)) ∙ d.draws

      pub drawing-goes : (q : Place) (m : Measure) (l : Offset) → step_from s p t at x none ≡ Go q m l
          → (z : Resumed) → z ≡ nothing_resumed → Drawing t s goal u q x.end.0 z r
      drawing-goes q m l f z b =
          let h = token_ready in
          let ds = tok_drawn s p t at x in
          let g = go-drawn s p t at held.chars.0 held.count.0 x none y q m l f in
          let k = step_keeps s p t at held.chars.0 held.count.0 x none h.settings h.place h.small y q m l f in
          let a = pen-after ev u o r ds e in
          rw b
          (record {
            draws = ap (λ (z : Sheet). drawn_on z (drawn_from s q t x.end.0 0 0)) e ∙ sym (on_append (sheet ev o) ds (drawn_from s q t x.end.0 0 0))
                ∙ ap (drawn_on (sheet ev o)) (sym g.0) ∙ d.draws;
            ready = record {
              pass = record {
                settings = h.settings;
                place = k.0;
                short = h.short;
                inside = y.stands.within;
                rest = none-fits t x.end.0 nothing_resumed refl;
                small = omega arith;
              };
              few = omega (arith, a.0, d.ready.few, tok-few s p t at held.chars.0 held.count.0 x y);
              narrow = omega (arith, a.1, d.ready.narrow, tok-narrow s p t at x none h);
            };
          })

-- The sheet at the end has all events.
pub goal_is : (s : Settings) (p : Place) (t : List ℕ) (at chars count : ℕ) (ev u : List ℕ) (k x : ℕ) (r : Pen)
    → sheet u r ≡ drawn_on (sheet ev (pen_at k x)) (drawn_from s p t at chars count)
    → (u ≡ put_events ev k (events_from s p t at chars count x)) × (r.next ≡ k + length (drawn_from s p t at chars count))
unfolding events_from
goal_is s p t at chars count ev u k x r e =
    let f = e ∙ on-is ev (pen_at k x) (drawn_from s p t at chars count) in
    (ap (λ (z : Sheet). z.numbers) f, ap (λ (z : Sheet). z.pen.next) f)
