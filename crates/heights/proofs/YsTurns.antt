-- The ys of lines, written one by one: what is written when the rest is written stays the same (rule 11).
-- Assumes nothing.
use Prim.Native.Nat.{ℕ, zero, suc, ◌+◌, ◌*◌, ◌≤◌, ◌<◌}
use mathlib.Core.Path.{◌≡◌, refl, sym, ap, ◌∙◌}
use mathlib.Core.List.{List, [], ◌∷◌}
use native.Mathlib.Numerals.{add-one}
use native.Mathlib.Omega.{arith}
use lib.IntN.{ℤ}
use lib.ListN.{length, get_or, drop, set}
use lib.Seq.{get_or-drop}
use Rattle.meaning.specs.Table.{entry_numbers, entry_in, entries_in}
use Rattle.meaning.specs.Height.{end_adds, added_before, y_of}
use Rattle.meaning.specs.YIndex.{index_of, written_from}
use Rattle.meaning.specs.declared.settings.Settings.{Settings}
use Rattle.laws.specs.TableLaws.{entries_length}
use Rattle.laws.specs.Indexes.{y_at, index-length, index_at}
use Rattle.heights.specs.LineUnder.{ending_of, added_next}
use Rattle.heights.specs.Heights.{added_alone}

-- ---- one y more

one_more_lem : (k : ℕ) (buffer ys : List ℤ) → k < length ys → k < length buffer
    → written_from k buffer ys ≡ written_from (suc k) (set buffer k (y_at ys k)) ys
unfolding written_from
one_more_lem k buffer [] h l = absurd (omega arith)
one_more_lem k [] (y ∷ ys) h l = absurd (omega arith)
one_more_lem zero (x ∷ buffer) (y ∷ ys) h l = refl
one_more_lem (suc k) (x ∷ buffer) (y ∷ ys) h l = ap (◌∷◌ x) (one_more_lem k buffer ys (omega arith) (omega arith))

no_more : (k : ℕ) (buffer ys : List ℤ) → length ys ≤ k → written_from k buffer ys ≡ buffer
unfolding written_from
no_more k buffer [] h = refl
no_more k [] (y ∷ ys) h = refl
no_more zero (x ∷ buffer) (y ∷ ys) h = absurd (omega arith)
no_more (suc k) (x ∷ buffer) (y ∷ ys) h = ap (◌∷◌ x) (no_more k buffer ys (omega arith))

-- ---- of a table's lines

module _ (s : Settings) (t : List ℕ) (lines k : ℕ) (buffer : List ℤ) where
  abbrev ys : List ℤ
  ys = index_of s (entries_in lines t)

  ys-many : length ys ≡ lines
  ys-many = index-length s (entries_in lines t) ∙ entries_length lines t

  pub y-written : k < lines → lines ≤ length buffer → (y : ℤ) → y ≡ y_of s k (entries_in lines t)
      → written_from k buffer ys ≡ written_from (k + 1) (set buffer k y) ys
  y-written h l y e =
      let right : y_at ys k ≡ y = index_at s (entries_in lines t) k (omega (arith, entries_length lines t)) ∙ sym e in
      one_more_lem k buffer ys (omega (arith, ys-many)) (omega arith) ∙ rw (add-one k, right)

  pub all-written : lines ≤ k → written_from k buffer ys ≡ buffer
  all-written h = no_more k buffer ys (omega (arith, ys-many))

-- ---- what a line's end adds to the line behind it

ending_in : (k n : ℕ) (t : List ℕ) → k < n → ending_of (entries_in n t) k ≡ get_or t (entry_numbers * k + 3) 0
unfolding entries_in entry_in
ending_in k zero t h = absurd (omega arith)
ending_in zero (suc n) t h = refl
ending_in (suc k) (suc n) t h =
    let e : entry_numbers + (entry_numbers * k + 3) ≡ entry_numbers * suc k + 3 = omega arith in
    ending_in k n (drop entry_numbers t) (omega arith) ∙ get_or-drop entry_numbers t (entry_numbers * k + 3) 0 ∙ ap (λ (i : ℕ). get_or t i 0) e

pub added-on : (s : Settings) (t : List ℕ) (k : ℕ)
    → added_before s (k + 1) (entries_in (k + 1) t) ≡ added_before s k (entries_in k t) + end_adds s (get_or t (entry_numbers * k + 3) 0)
added-on s t k =
    rw (add-one k)
    (added_next s (entries_in (suc k) t) k (omega (arith, entries_length (suc k) t))
    ∙ (λ i. added_alone s k (suc k) t (omega arith) i + end_adds s (ending_in k (suc k) t (omega arith) i)))
