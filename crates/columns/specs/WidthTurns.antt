-- One turn of the loop that tries widths.
-- Assumes nothing.
use Prim.Native.Nat.{ℕ, suc, ◌+◌, ◌≤◌, ◌<◌}
use Rattle.std.specs.Prelude.{◌≡◌, true, false, ◌⊎◌, List, leb, ltb, None, Some}
use Rattle.std.proofs.Common.{sym, ◌∙◌, inl}
use Rattle.std.proofs.Math.Path.{subst}
use Rattle.std.proofs.Math.Logic.{inr}
use native.Mathlib.Omega.{arith}
use borrow.Author.Tests.{leb-true, ltb-true, ltb-false}
use Rattle.basis.specs.Choice.{pick_cases}
use Rattle.basis.specs.Order.{by_le, by_lt, by_eq}
use Rattle.meaning.specs.Columns.{fits_whole, with_width, widest_box, narrowest}
use Rattle.meaning.specs.declared.settings.Settings.{Settings}
use Rattle.widths.specs.NarrowestWidth.{smallest-answered, no_width-answered}
use Rattle.columns.specs.Skipping.{next_width, Whole, one-whole, next-whole, same_whole}
use Rattle.columns.specs.FairSkips.{SkipsFairly}
use Rattle.columns.specs.FirstWidth.{NoneBelow}
use Rattle.columns.specs.declared.skipping.Skips.{Skips}

module _ (s : Settings) (h : ℕ) (cs : List ℕ) where
  -- The widths before this one are tried or passed over, and the text fits in none of them. It is less than a step or of
  -- whole steps, unless it is past them all.
  pub record Sought (k : Skips) (w : ℕ) : Type 0 where
    pub fair : SkipsFairly s cs k
    pub low : w ≤ widest_box + 64
    pub whole : w ≤ widest_box → (w < k.step) ⊎ Whole k w
    pub none : NoneBelow s h cs w

  -- A search may begin with any width of whole steps, if in no narrower one the text fits.
  pub sought_from : (k : Skips) → SkipsFairly s cs k → (w : ℕ) → w ≤ widest_box + 64 → (w ≤ widest_box → Whole k w) → NoneBelow s h cs w → Sought k w
  sought_from k fair w low whole none = record { fair = fair; low = low; whole = λ p. inr (whole p); none = none }

  module _ (k : Skips) (w : ℕ) (f : Sought k w) where
    -- All are tried.
    pub sought_none : widest_box < w → None ≡ narrowest s h cs
    sought_none past = sym (no_width-answered s h cs (λ v low. f.none v (omega arith)))

    module _ (low : w ≤ widest_box) where
      -- It fits here.
      pub sought_here : fits_whole (with_width s w) h cs ≡ true → Some w ≡ narrowest s h cs
      sought_here e = sym (smallest-answered s h cs w low e f.none)

      module _ (e : fits_whole (with_width s w) h cs ≡ false) where
        -- It does not, nor in any width up to this one.
        up_to : (v : ℕ) → v ≤ w → fits_whole (with_width s v) h cs ≡ false
        up_to v a =
            by_eq v w (λ is. subst (λ (x : ℕ). fits_whole (with_width s x) h cs ≡ false) (sym is) e) (λ d. f.none v (omega arith))

        -- If this one is enough it fits in none.
        past_all : k.enough ≤ w → NoneBelow s h cs (suc widest_box)
        past_all wide v less =
            by_le v w (up_to v)
            (λ more.
            let other = f.fair.beyond v (omega arith) (omega arith) in
            sym (other.same h) ∙ up_to other.width (omega (arith, other.low)))

        -- And else in none that is less than a step wider, if it is no less than a step.
        whole_here : k.step ≤ w → (w < k.step) ⊎ Whole k w → Whole k w
        whole_here a (inl b) = absurd (omega arith)
        whole_here a (inr b) = b

        past-step : k.step ≤ w → NoneBelow s h cs (w + k.step)
        past-step steps v less =
            let whole = whole_here steps (f.whole low) in
            by_lt v w (f.none v) (λ more. sym (f.fair.within w v h steps (same_whole k f.fair.small w whole v more less)) ∙ e)

        -- The next one of those below a step, of which the last is followed by the step.
        next-below : w < k.step → (suc w < k.step) ⊎ Whole k (suc w)
        next-below less =
            by_lt (suc w) k.step inl
            (λ more. let is : k.step ≡ suc w = omega arith in inr (subst (Whole k) is (one-whole k f.fair.small)))

        pub sought_next : (v : ℕ) → v ≡ next_width k w → Sought k v
        unfolding next_width
        sought_next v is =
            let step = f.fair.small in
            rw is
            (pick_cases (Sought k) (leb k.enough w)
            (λ q.
            record { fair = f.fair; low = omega arith; whole = λ p. absurd (omega arith); none = past_all (leb-true k.enough w q) })
            (λ _.
            pick_cases (Sought k) (ltb w k.step)
            (λ q.
            let one : suc w ≡ w + 1 = omega arith in
            subst (Sought k) one
            (record {
              fair = f.fair;
              low = omega arith;
              whole = λ _. next-below (ltb-true w k.step q);
              none = λ v less. up_to v (omega arith);
            }))
            (λ q.
            let steps = ltb-false w k.step q in
            record {
              fair = f.fair;
              low = omega (arith, step.1);
              whole = λ _. inr (next-whole k step w (whole_here steps (f.whole low)));
              none = past-step steps;
            })))
