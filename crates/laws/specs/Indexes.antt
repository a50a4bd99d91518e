-- The index of ys: it has rule 11's y of every line and is never refused; and an index that is not refused is in order (rule 11,
-- refusal 10).
-- Assumes nothing.
use Prim.Native.Nat.{ℕ, zero, suc, ◌+◌, ◌≤◌, ◌<◌}
use Rattle.std.specs.Prelude.{◌≡◌, true, List, [], ◌∷◌, ℤ, pos, ◌+ℤ◌, length, get_or, Ok}
use Rattle.std.proofs.Math.Path.{refl, ap}
use Rattle.std.proofs.Common.{◌∙◌, add-zero, zero-add, eq-eqb}
use native.Mathlib.Omega.{arith}
use Rattle.std.specs.Int.Signed.{le_z}
use Rattle.basis.specs.Choice.{pick_true}
use Rattle.meaning.specs.Height.{height_of, offset_of, added_before, y_of}
use Rattle.meaning.specs.YIndex.{ys_from, index_of, check_rising, check_ys, check_index}
use Rattle.meaning.specs.declared.settings.Settings.{Settings}
use Rattle.meaning.specs.declared.line.Entry.{Entry}
use Rattle.meaning.specs.declared.refusals.Refusal.TheVariants.{BadIndex}
use Rattle.laws.specs.GoodLines.{good-both}
use Rattle.laws.specs.SignedOrder.{le_same, le_through, le_added}

-- The y at a place of an index.
abbrev pub y_at : List ℤ → ℕ → ℤ
y_at ys k = get_or ys k (pos 0)

-- ---- what an index holds

module _ (s : Settings) (es : List Entry) where
  ys-length : (k n : ℕ) → length (ys_from s es k n) ≡ n
  unfolding ys_from
  ys-length k zero = refl
  ys-length k (suc n) = ap suc (ys-length (suc k) n)

  ys-at : (k n i : ℕ) → i < n → y_at (ys_from s es k n) i ≡ y_of s (k + i) es
  unfolding ys_from
  ys-at k zero i h = absurd (omega arith)
  ys-at k (suc n) zero h = rw (add-zero k)
  ys-at k (suc n) (suc i) h =
      let e : suc k + i ≡ k + suc i = omega arith in
      ys-at (suc k) n i (omega arith) ∙ ap (λ (m : ℕ). y_of s m es) e

  -- As many ys as there are lines, and each is its line's.
  pub index-length : length (index_of s es) ≡ length es
  unfolding index_of
  index-length = ys-length 0 (length es)

  pub index_at : (k : ℕ) → k < length es → y_at (index_of s es) k ≡ y_of s k es
  unfolding index_of
  index_at k h = ys-at 0 (length es) k h ∙ ap (λ (m : ℕ). y_of s m es) (zero-add k)

-- ---- ys in order

-- What the lines before add grows from line to line.
added-grows : (s : Settings) (k : ℕ) (es : List Entry) → added_before s k es ≤ added_before s (suc k) es
unfolding added_before
added-grows s k [] = omega arith
added-grows s zero (e ∷ es) = omega arith
added-grows s (suc k) (e ∷ es) = omega (arith, added-grows s k es)

module _ (s : Settings) (es : List Entry) where
  y-grows : (k : ℕ) → le_z (y_of s k es) (y_of s (suc k) es) ≡ true
  unfolding y_of
  y-grows k = le_added (s.top +ℤ offset_of s (height_of s es)) _ _ (added-grows s k es)

  ys-good : (i k n : ℕ) → check_rising i (y_of s k es) (ys_from s es (suc k) n) ≡ Ok tt
  unfolding check_rising ys_from
  ys-good i k zero = refl
  ys-good i k (suc n) = pick_true _ _ _ (y-grows k) ∙ ys-good (suc i) (suc k) n

  all-good : (k n : ℕ) → check_ys (ys_from s es k n) ≡ Ok tt
  unfolding check_ys ys_from
  all-good k zero = refl
  all-good k (suc n) = ys-good 1 k n

  index-rises : check_ys (index_of s es) ≡ Ok tt
  unfolding index_of
  index-rises = all-good 0 (length es)

  -- An index as it is made is not refused.
  pub index-good : check_index (length es) (index_of s es) ≡ Ok tt
  unfolding check_index
  index-good = pick_true _ _ _ (eq-eqb _ _ (index-length s es)) ∙ index-rises

-- Of an index that is not refused: as many ys as lines, and no y is smaller than one before it.
abbrev pub Rising : List ℤ → Type 0
Rising ys = (i j : ℕ) → i ≤ j → j < length ys → le_z (y_at ys i) (y_at ys j) ≡ true

rising-from : (k : ℕ) (b : ℤ) (ys : List ℤ) → check_rising k b ys ≡ Ok tt → Rising (b ∷ ys)
unfolding check_rising
rising-from k b [] g zero zero p h = le_same b
rising-from k b [] g zero (suc j) p h = absurd (omega arith)
rising-from k b [] g (suc i) zero p h = absurd (omega arith)
rising-from k b [] g (suc i) (suc j) p h = absurd (omega arith)
rising-from k b (y ∷ ys) g zero zero p h = le_same b
rising-from k b (y ∷ ys) g zero (suc j) p h =
    let t = good-both (le_z b y) (check_rising (suc k) y ys) (BadIndex k) g in
    le_through b y (y_at (y ∷ ys) j) t.0 (rising-from (suc k) y ys t.1 0 j (omega arith) (omega arith))
rising-from k b (y ∷ ys) g (suc i) zero p h = absurd (omega arith)
rising-from k b (y ∷ ys) g (suc i) (suc j) p h =
    let t = good-both (le_z b y) (check_rising (suc k) y ys) (BadIndex k) g in
    rising-from (suc k) y ys t.1 i j (omega arith) (omega arith)

pub ys-rise : (ys : List ℤ) → check_ys ys ≡ Ok tt → Rising ys
unfolding check_ys
ys-rise [] g i j p h = absurd (omega arith)
ys-rise (y ∷ ys) g i j p h = rising-from 1 y ys g i j p h
