-- The vertical offset, a line's y, and whether it shows, as 32-bit signed numbers.
-- Assumes nothing.
use Prim.Native.Nat.{ℕ, ◌+◌, ◌≤◌}
use mathlib.Core.Path.{◌≡◌, refl, sym, ap, ◌∙◌}
use mathlib.Core.Bool.{◌&&◌}
use mathlib.Core.List.{List}
use native.Mathlib.Omega.{arith}
use borrow.Author.Tests.{eq-eqb, ne_eqb}
use lib.Dec.{eqb}
use lib.IntN.{ℤ, pos, ◌+ℤ◌, ◌-ℤ◌, +ℤ_idr}
use lib.Signed.{mag, le_z, quot_z}
use mir.Val.{SFits, to_z, of_z}
use mir.Syntax.{w32}
use mir.Facts.{to_z-of_z}
use Rattle.basis.specs.Choice.{pick, pick_cases}
use Rattle.meaning.specs.Table.{entries_in}
use Rattle.meaning.specs.Height.{height_of, offset_of, added_before, y_of, shows_at}
use Rattle.meaning.specs.declared.settings.Settings.{Settings}
use Rattle.meaning.specs.declared.line.Entry.{Entry}
use Rattle.heights.specs.GoodSettings.{Measures}
use Rattle.heights.specs.Heights.{first_y, added_alone}
use Rattle.heights.proofs.Signs.{mag_sum, mag_less, mag_half, fits, kept, widened}

module _ (s : Settings) (t : ℕ) where
  pub offset_top : s.vertical ≡ 0 → pos 0 ≡ offset_of s t
  unfolding offset_of pick
  offset_top e = rw (eq-eqb _ _ e)

  pub offset_middle : s.vertical ≡ 1 → quot_z (pos s.height.0 -ℤ pos t) (pos 2) ≡ offset_of s t
  unfolding offset_of pick
  offset_middle e = rw e

  pub offset_bottom : (s.vertical ≡ 0 → ⊥) → (s.vertical ≡ 1 → ⊥) → pos s.height.0 -ℤ pos t ≡ offset_of s t
  unfolding offset_of pick
  offset_bottom d e = rw (ne_eqb _ _ d, ne_eqb _ _ e)

  -- It is no further from 0 than box and text are high.
  pub offset_near : mag (offset_of s t) ≤ s.height.0 + t + 2
  unfolding offset_of
  offset_near =
      let d = mag_less (pos s.height.0) t in
      pick_cases (λ z. mag z ≤ s.height.0 + t + 2) (eqb s.vertical 0) (λ _. omega arith)
      (λ _. pick_cases (λ z. mag z ≤ s.height.0 + t + 2) (eqb s.vertical 1)
      (λ _. omega (arith, mag_half (pos s.height.0 -ℤ pos t))) (λ _. omega arith))

pub offset_limit : (s : Settings) → Measures s → (t : ℕ) (z : ℤ) → z ≡ offset_of s t → t ≤ 536870976 → mag z ≤ 600000000
offset_limit s m t z e h = rw e (omega (arith, offset_near s t))

module _ (s : Settings) (m : Measures s) where
  abbrev top : ℤ
  top = s.top

  abbrev box : ℕ
  box = s.height.0

  abbrev base : ℕ
  base = s.base.0

  top_kept : to_z w32 (of_z w32 top) ≡ top
  top_kept = kept top (omega arith)

  box-far : mag (top +ℤ pos box) ≤ 8193
  box-far = omega (arith, mag_sum top (pos box))

  pub bottom_fits : SFits w32 (to_z w32 (of_z w32 top) +ℤ to_z w32 box)
  bottom_fits = rw (top_kept, widened box (omega arith)) (fits (top +ℤ pos box) (omega (arith, box-far)))

  bottom_is : to_z w32 (of_z w32 (to_z w32 (of_z w32 top) +ℤ to_z w32 box)) ≡ top +ℤ pos box
  bottom_is = rw (top_kept, widened box (omega arith)) (kept (top +ℤ pos box) (omega (arith, box-far)))

  lowest-far : mag (top +ℤ pos box -ℤ pos base) ≤ 8258
  lowest-far = omega (arith, box-far, mag_less (top +ℤ pos box) base)

  pub lowest-fits : SFits w32 (to_z w32 (of_z w32 (to_z w32 (of_z w32 top) +ℤ to_z w32 box)) -ℤ to_z w32 base)
  lowest-fits = rw (bottom_is, widened base (omega arith)) (fits (top +ℤ pos box -ℤ pos base) (omega (arith, lowest-far)))

  lowest-is : to_z w32 (of_z w32 (to_z w32 (of_z w32 (to_z w32 (of_z w32 top) +ℤ to_z w32 box)) -ℤ to_z w32 base))
      ≡ top +ℤ pos box -ℤ pos base
  lowest-is = rw (bottom_is, widened base (omega arith)) (kept (top +ℤ pos box -ℤ pos base) (omega (arith, lowest-far)))

  module _ (y : ℤ) (f : SFits w32 y) where
    abbrev lowest : ℕ
    lowest = of_z w32 (to_z w32 (of_z w32 (to_z w32 (of_z w32 top) +ℤ to_z w32 box)) -ℤ to_z w32 base)

    pub shows-is : le_z (to_z w32 (of_z w32 top)) (to_z w32 (of_z w32 y)) && le_z (to_z w32 (of_z w32 y)) (to_z w32 lowest) ≡ shows_at s y
    unfolding shows_at
    shows-is = rw (lowest-is, top_kept, to_z-of_z f)

-- The box top and an offset.
module _ (top offset : ℤ) (p : mag top ≤ 4096) (q : mag offset ≤ 600000000) where
  pub sum-far : mag (top +ℤ offset) ≤ 600004097
  sum-far = omega (arith, mag_sum top offset)

  pub sum_fits : SFits w32 (to_z w32 (of_z w32 top) +ℤ to_z w32 (of_z w32 offset))
  sum_fits = rw (kept top (omega arith), kept offset (omega arith)) (fits (top +ℤ offset) (omega (arith, sum-far)))

  pub sum_is : to_z w32 (of_z w32 (to_z w32 (of_z w32 top) +ℤ to_z w32 (of_z w32 offset))) ≡ top +ℤ offset
  sum_is = rw (kept top (omega arith), kept offset (omega arith)) (kept (top +ℤ offset) (omega (arith, sum-far)))

-- The first line's y and what line ends add.
module _ (first : ℤ) (added : ℕ) (p : mag first ≤ 600004097) (r : added ≤ 600000000) where
  y-far : mag (first +ℤ pos added) ≤ 1200004098
  y-far = omega (arith, mag_sum first (pos added))

  pub y-fits : SFits w32 (to_z w32 (of_z w32 first) +ℤ to_z w32 added)
  y-fits = rw (kept first (omega arith), widened added (omega arith)) (fits (first +ℤ pos added) (omega (arith, y-far)))

  pub y-is : to_z w32 (of_z w32 (to_z w32 (of_z w32 first) +ℤ to_z w32 added)) ≡ first +ℤ pos added
  y-is = rw (kept first (omega arith), widened added (omega arith)) (kept (first +ℤ pos added) (omega (arith, y-far)))

-- The first line's y: at the top it is the box top, and nowhere is it far from 0.
module _ (s : Settings) (es : List Entry) where
  pub first-top : s.vertical ≡ 0 → s.top ≡ first_y s es
  unfolding first_y
  first-top e = sym (+ℤ_idr s.top) ∙ ap (λ (z : ℤ). s.top +ℤ z) (offset_top s (height_of s es) e)

  pub first-sum : (h : ℕ) (offset : ℤ) → offset ≡ offset_of s h → h ≡ height_of s es → s.top +ℤ offset ≡ first_y s es
  unfolding first_y
  first-sum h offset o e = ap (λ (z : ℤ). s.top +ℤ z) (o ∙ ap (offset_of s) e)

  pub first-near : Measures s → height_of s es ≤ 536870976 → mag (first_y s es) ≤ 600004097
  unfolding first_y
  first-near m h = sum-far s.top (offset_of s (height_of s es)) m.top (offset_limit s m (height_of s es) (offset_of s (height_of s es)) refl h)

-- The parts of a line's y, as the code has found them.
pub y-parts : (s : Settings) (t : List ℕ) (lines k added : ℕ) (first : ℤ) → k ≤ lines → first ≡ first_y s (entries_in lines t)
    → added ≡ added_before s k (entries_in k t) → first +ℤ pos added ≡ y_of s k (entries_in lines t)
unfolding y_of first_y
y-parts s t lines k added first l e a =
    let r : added ≡ added_before s k (entries_in lines t) = a ∙ sym (added_alone s k lines t l) in
    λ i. e i +ℤ pos (r i)
