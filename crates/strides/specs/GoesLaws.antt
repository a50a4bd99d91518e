-- How far a pass comes over words: where it stops, and what waits there.
-- Assumes nothing.
use Rattle.std.specs.Prelude.{◌≡◌, refl, false, List, ℕ, None, Option}
use Rattle.steps.specs.declared.foreseen.Look.{Look}
use Rattle.std.proofs.Common.{sym, ◌∙◌, arith}
use Rattle.std.proofs.Math.Path.{ap, subst}
use Rattle.meaning.specs.declared.settings.Settings.{Settings}
use Rattle.meaning.specs.declared.cursor.Place.{Place}
use Rattle.meaning.specs.declared.line.Measure.{Measure}
use Rattle.steps.specs.Stepping.{ran_from}
use Rattle.steps.specs.Unrolled.{farther, nothing_resumed}
use Rattle.steps.specs.Running.{PassReady, none-fits}
use Rattle.pairs.specs.PlainWords.{Found}
use Rattle.strides.specs.Strides.{waiting_at, going_at, Onward, Waits, Goes, WaitReady}
use Rattle.steps.specs.Foreseeing.{ForeseesFrom}
use Rattle.steps.specs.declared.step.Resumed.{Resumed}
use Rattle.steps.specs.declared.step.Ended.{Ended}
use Rattle.strides.specs.declared.going.Waiting.{Waiting}
use Rattle.strides.specs.declared.going.Going.{Going}
use Rattle.strides.specs.OnwardLaws.{onward-none, onward-on}

-- ---- where a loop stops

none-waits : {X : Type 0} (w : Waiting) → w ≡ waiting_at 0 0 0 → Found w.next.0 X
unfolding waiting_at
none-waits w e d = absurd (d (ap (λ (v : Waiting). v.next.0) e))

module _ (q : Place) (n : Measure) (to : ℕ) (w : Waiting) {g : Going} (is : g ≡ going_at q n to w) where
  pub goes_at : g.at.0 ≡ to
  unfolding going_at
  goes_at = ap (λ (g : Going). g.at.0) is

  -- The line is not empty there.
  pub goes-full : q.empty ≡ false → g.place.empty ≡ false
  unfolding going_at
  goes-full e = ap (λ (g : Going). g.place.empty) is ∙ e

-- ---- one after the other

module _ {s : Settings} {t : List ℕ} {r : Resumed} where
  -- Nothing waits there.
  pub goes_to : {p : Place} {at : ℕ} {m : Measure} {q : Place} {n : Measure} (to : ℕ) {w : Waiting} {g : Going} → w ≡ waiting_at 0 0 0 → g ≡ going_at q n to w
      → Onward s p t at r m q to n → Goes s p t at r m g
  unfolding going_at
  goes_to {p} {at} {m} to {w} none is there = subst (Goes s p t at r m) (sym is) (record { onward = there; waits = none-waits w none })

  -- A word waits there.
  pub goes_wait : {p : Place} {at : ℕ} {m : Measure} {q : Place} {n : Measure} (to : ℕ) (w : Waiting) {g : Going} → g ≡ going_at q n to w
      → Onward s p t at r m q to n → r ≡ nothing_resumed → Waits s q t to w → Goes s p t at r m g
  unfolding going_at
  goes_wait {p} {at} {m} to w is there e x =
      subst (Goes s p t at r m) (sym is)
      (record { onward = there; waits = λ _. (x, ap (λ (k : Resumed). k.chars.0) e, ap (λ (k : Resumed). k.count.0) e) })

  pub goes-here : {p : Place} {at : ℕ} {m : Measure} {g : Going} → Goes s p t at r m g → Goes s g.place t g.at.0 r g.measure g
  goes-here f = record { onward = onward-none f.onward.ready; waits = f.waits }

  pub goes_on_lem : {p : Place} {at : ℕ} {m : Measure} {q : Place} {to : ℕ} {n : Measure} {g : Going} → Onward s p t at r m q to n → Goes s q t to r n g
      → Goes s p t at r m g
  goes_on_lem there f = record { onward = onward-on there f.onward; waits = f.waits }

-- ---- where there is no rest

module _ {s : Settings} {p : Place} {t : List ℕ} {at : ℕ} {r : Resumed} {m : Measure} (h : PassReady s p t at r m) (e : r.chars.0 ≡ 0) where
  none-counted : r.count.0 ≡ 0
  none-counted = omega (arith, h.rest.counts)

  pub rest-none : PassReady s p t at nothing_resumed m
  rest-none =
      record {
        settings = h.settings;
        place = h.place;
        short = h.short;
        inside = h.inside;
        rest = none-fits t at nothing_resumed refl;
        small = h.small;
      }

  pub goes-rest : {g : Going} → Goes s p t at nothing_resumed m g → Goes s p t at r m g
  goes-rest {g} f =
      let o = f.onward in
      let d = o.ready in
      let k = none-counted in
      record {
        onward = record {
          same = (λ i. ran_from s g.place t g.at.0 (e i) (k i) g.measure) ∙ o.same ∙ (λ i. ran_from s p t at (sym e i) (sym k i) m);
          ready = record {
            settings = d.settings;
            place = d.place;
            short = d.short;
            inside = d.inside;
            rest = record { within = omega arith; counts = omega arith; ends = λ n. absurd (n e) };
            small = d.small;
          };
          forward = o.forward;
        };
        waits = λ n. ((f.waits n).0, e, k);
      }

-- ---- where a word waits

module _ {s : Settings} {p : Place} {t : List ℕ} {at : ℕ} {r : Resumed} {m : Measure} {g : Going} (f : Goes s p t at r m g) (d : g.waits.next.0 ≡ 0 → ⊥) where
  pub waits-ready : WaitReady s t g
  waits-ready = (rest-none f.onward.ready (f.waits d).1, (f.waits d).0)

  -- The line's end there is the pass's, however far it looked before.
  pub waits_end : (e : Ended) → e ≡ ran_from s g.place t g.at.0 0 0 g.measure → (k : ℕ)
      → farther k e ≡ farther k (ran_from s p t at r.chars.0 r.count.0 m)
  waits_end e is k =
      let w = f.waits d in
      ap (farther k) (is ∙ (λ i. ran_from s g.place t g.at.0 (sym w.1 i) (sym w.2 i) g.measure) ∙ f.onward.same)

-- ---- where a look may be known

pub stays_foreseen : (s : Settings) (p : Place) (t : List ℕ) (at : ℕ) (r : Resumed) (m : Measure) (f : Option Look) (w : Waiting) (g : Going) → g ≡ going_at p m at w
    → ForeseesFrom s p t at r f → ForeseesFrom s g.place t g.at.0 r f
unfolding going_at
stays_foreseen s p t at r m f w g is h = rw is h

pub nothing_foreseen : (s : Settings) (p : Place) (t : List ℕ) (at : ℕ) (r : Resumed) (f : Option Look) → f ≡ None → ForeseesFrom s p t at r f
nothing_foreseen s p t at r f e = rw e tt
