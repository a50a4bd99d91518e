-- The line that is found in an index is the last with y at most the given one, and none is found exactly if all are above it (rule 11).
-- Assumes nothing.
use Prim.Native.Nat.{ℕ, zero, suc, ◌+◌, ◌<◌}
use Rattle.std.specs.Prelude.{◌≡◌, true, false, ◌⊎◌, ℤ, length, Option, Some, None}
use Rattle.std.proofs.Math.Path.{refl, ap}
use Rattle.std.proofs.Common.{sym, subst, ◌∙◌, inl, inr, ⊎_elim, zero-add}
use mathlib.Core.List.{List, [], ◌∷◌}
use Rattle.std.proofs.Math.Nat.{add-zero}
use native.Mathlib.Omega.{arith}
use Rattle.std.specs.Int.Signed.{le_z}
use Rattle.basis.specs.Choice.{pick, by_test}
use Rattle.meaning.specs.YIndex.{last_under, find_in}
use Rattle.laws.specs.Indexes.{y_at}

-- All ys are above a given one; and place k has the last that is at most it.
abbrev pub AllAbove : ℤ → List ℤ → Type 0
AllAbove y ys = (j : ℕ) → j < length ys → le_z (y_at ys j) y ≡ false

pub record LastUnder (y : ℤ) (ys : List ℤ) (k : ℕ) : Type 0 where
  pub within : k < length ys
  pub under : le_z (y_at ys k) y ≡ true
  pub after : (j : ℕ) → k < j → j < length ys → le_z (y_at ys j) y ≡ false

module _ (y : ℤ) where
  none-under : (n : ℕ) (b : Option ℕ) (ys : List ℤ) → AllAbove y ys → last_under y n b ys ≡ b
  unfolding last_under pick
  none-under n b [] a = refl
  none-under n b (z ∷ ys) a = rw (a 0 (omega arith)) (none-under (suc n) b ys (λ j h. a (suc j) (omega arith)))

  last-under : (n : ℕ) (b : Option ℕ) (ys : List ℤ) (k : ℕ) → LastUnder y ys k → last_under y n b ys ≡ Some (n + k)
  unfolding last_under pick
  last-under n b [] k l = absurd (omega (arith, l.within))
  last-under n b (z ∷ ys) zero l =
      rw (l.under, add-zero n) (none-under (suc n) (Some n) ys (λ j h. l.after (suc j) (omega arith) (omega arith)))
  last-under n b (z ∷ ys) (suc k) l =
      let e : suc n + k ≡ n + suc k = omega arith in
      last-under (suc n) (pick (le_z z y) (Some n) b) ys k
      (record { within = omega (arith, l.within); under = l.under; after = λ j p h. l.after (suc j) (omega arith) (omega arith) })
      ∙ ap Some e

  -- None is answered where all are above, and the last that is not where there is one.
  pub found_none : (ys : List ℤ) → AllAbove y ys → find_in y ys ≡ None
  unfolding find_in
  found_none ys a = none-under 0 None ys a

  pub found-last : (ys : List ℤ) (k : ℕ) → LastUnder y ys k → find_in y ys ≡ Some k
  unfolding find_in
  found-last ys k l = last-under 0 None ys k l ∙ ap Some (zero-add k)

  -- The other way: what an answer says.
  abbrev pub Says : List ℤ → Option ℕ → Type 0
  Says ys (Some k) = LastUnder y ys k
  Says ys None = AllAbove y ys

  record Seen (ys : List ℤ) : Type 0 where
    k : ℕ
    last : LastUnder y ys k

  seek : (ys : List ℤ) → AllAbove y ys ⊎ Seen ys
  seek [] = inl (λ j h. absurd (omega arith))
  seek (z ∷ ys) = ⊎_elim here (λ m. inr (further m)) (seek ys)
    where
      further : Seen ys → Seen (z ∷ ys)
      further m =
          let l = m.last in
          record {
            k = suc m.k;
            last = record { within = omega (arith, l.within); under = l.under; after = behind m.k l };
          }
        where
          behind : (k : ℕ) → LastUnder y ys k → (j : ℕ) → suc k < j → j < length (z ∷ ys) → le_z (y_at (z ∷ ys) j) y ≡ false
          behind k l zero p h = absurd (omega arith)
          behind k l (suc j) p h = l.after j (omega arith) (omega arith)

      first : AllAbove y ys → le_z z y ≡ true → (j : ℕ) → 0 < j → j < length (z ∷ ys) → le_z (y_at (z ∷ ys) j) y ≡ false
      first a t zero p h = absurd (omega arith)
      first a t (suc j) p h = a j (omega arith)

      none : AllAbove y ys → le_z z y ≡ false → AllAbove y (z ∷ ys)
      none a t zero h = t
      none a t (suc j) h = a j (omega arith)

      here : AllAbove y ys → AllAbove y (z ∷ ys) ⊎ Seen (z ∷ ys)
      here a =
          by_test (le_z z y) (λ t. inr (record { k = 0; last = record { within = omega arith; under = t; after = first a t } }))
          (λ t. inl (none a t))

  pub find_says : (ys : List ℤ) → Says ys (find_in y ys)
  find_says ys =
      ⊎_elim (λ a. subst (Says ys) (sym (found_none ys a)) a) (λ m. subst (Says ys) (sym (found-last ys m.k m.last)) m.last)
      (seek ys)
