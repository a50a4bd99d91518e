-- Rule 11 as sums over the lines: the height is what all line ends add, less the one LineBreak that it leaves out.
-- Assumes nothing.
use Prim.Native.Nat.{ℕ, zero, suc, ◌+◌, ◌*◌, ◌≤◌, ◌<◌}
use Rattle.meaning.specs.declared.answers.LineY.{LineY}
use Rattle.std.specs.Prelude.{◌≡◌, Bool, true, ◌&&◌, ℤ, ◌+ℤ◌, length, get_or, drop}
use Rattle.std.proofs.Math.Path.{refl}
use mathlib.Core.List.{List, [], ◌∷◌}
use native.Mathlib.Omega.{arith}
use Rattle.std.proofs.Common.{eqb-true, get_or-drop}
use Rattle.std.proofs.Math.Dec.{eqb}
use Rattle.basis.specs.Choice.{pick, pick_cases, by_test, and_true}
use Rattle.meaning.specs.Table.{entry_numbers, entry_in, entries_in}
use Rattle.meaning.specs.Height.{end_adds, height_adds, height_from, height_of, offset_of, added_before, shows_at}
use Rattle.meaning.specs.declared.settings.Settings.{Settings}
use Rattle.meaning.specs.declared.line.Entry.{Entry}
use Rattle.heights.specs.GoodSettings.{Measures}

-- What the height leaves out: the spacing of a LineBreak (3) before a last line that starts at the text's end.
unfoldable pub not_counted : Settings → (length : ℕ) → List Entry → ℕ
not_counted s n [] = 0
not_counted s n (e ∷ []) = 0
not_counted s n (e ∷ f ∷ []) = pick (eqb e.ending 3 && eqb f.start.0 n) s.spacing.0 0
not_counted s n (e ∷ f ∷ g ∷ es) = not_counted s n (f ∷ g ∷ es)

-- The y of line 0: the box top and the vertical offset.
unfoldable pub first_y : Settings → List Entry → ℤ
first_y s es = s.top +ℤ offset_of s (height_of s es)

-- A line at y, and whether it shows.
unfoldable pub shown_at : Settings → ℤ → LineY
shown_at s y = record { y = y; shows = shows_at s y }

module _ (s : Settings) where
  ending_break : (ending : ℕ) (b : Bool) → eqb ending 3 && b ≡ true → end_adds s ending ≡ s.spacing.0
  unfolding end_adds pick
  ending_break ending b h = rw (eqb-true ending 3 (and_true (eqb ending 3) b h).0)

  last-two : (n : ℕ) (e f : Entry)
      → height_adds s n e (f ∷ []) + not_counted s n (e ∷ f ∷ []) ≡ end_adds s e.ending
  unfolding height_adds not_counted pick
  last-two n e f =
      by_test (eqb e.ending 3 && eqb f.start.0 n)
      (λ h. rw h (omega (arith, ending_break e.ending (eqb f.start.0 n) h))) (λ h. rw h (omega arith))

  -- The height and what it leaves out make what all line ends add.
  pub height-counted : (n : ℕ) (es : List Entry) → height_from s n es + not_counted s n es ≡ added_before s (length es) es
  unfolding height_from added_before height_adds not_counted
  height-counted n [] = omega arith
  height-counted n (e ∷ []) = omega arith
  height-counted n (e ∷ f ∷ []) = omega (arith, last-two n e f)
  height-counted n (e ∷ f ∷ g ∷ es) = omega (arith, height-counted n (f ∷ g ∷ es))

  -- The first k lines alone say what their ends add.
  pub added_alone : (k lines : ℕ) (t : List ℕ) → k ≤ lines
      → added_before s k (entries_in lines t) ≡ added_before s k (entries_in k t)
  unfolding added_before entries_in
  added_alone zero zero t h = refl
  added_alone zero (suc m) t h = refl
  added_alone (suc k) zero t h = absurd (omega arith)
  added_alone (suc k) (suc m) t h = omega (arith, added_alone k m (drop entry_numbers t) (omega arith))

  module _ (m : Measures s) where
    pub end-small : (ending : ℕ) → end_adds s ending ≤ 8192
    unfolding end_adds
    end-small ending =
        pick_cases (λ n. n ≤ 8192) (eqb ending 0) (λ _. omega arith)
        (λ _. pick_cases (λ n. n ≤ 8192) (eqb ending 3) (λ _. omega arith) (λ _. omega arith))

    pub added-small : (k : ℕ) (es : List Entry) → added_before s k es ≤ 8192 * k
    unfolding added_before
    added-small k [] = omega arith
    added-small zero (e ∷ es) = omega arith
    added-small (suc k) (e ∷ es) = omega (arith, end-small e.ending, added-small k es)

-- The last two lines decide what is left out.
pub not-counted-few : (s : Settings) (n lines : ℕ) (t : List ℕ) → lines < 2 → not_counted s n (entries_in lines t) ≡ 0
unfolding not_counted entries_in
not-counted-few s n zero t h = refl
not-counted-few s n (suc zero) t h = refl
not-counted-few s n (suc (suc m)) t h = absurd (omega arith)

pub not-counted-two : (s : Settings) (n m : ℕ) (t : List ℕ)
    → not_counted s n (entries_in (suc (suc m)) t)
    ≡ pick (eqb (get_or t (entry_numbers * m + 3) 0) 3 && eqb (get_or t (entry_numbers * m + entry_numbers) 0) n) s.spacing.0 0
unfolding not_counted entries_in entry_in
not-counted-two s n zero t = rw (get_or-drop entry_numbers t 0 0)
not-counted-two s n (suc m) t =
    let e : entry_numbers + (entry_numbers * m + 3) ≡ entry_numbers * suc m + 3 = omega arith in
    let f : entry_numbers + (entry_numbers * m + entry_numbers) ≡ entry_numbers * suc m + entry_numbers = omega arith in
    rw (get_or-drop entry_numbers t (entry_numbers * m + 3) 0, get_or-drop entry_numbers t (entry_numbers * m + entry_numbers) 0, e, f) at (not-counted-two s n m (drop entry_numbers t))
