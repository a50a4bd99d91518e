-- Numbers compared with numbers.
-- Assumes nothing.
use Rattle.std.specs.Prelude.{ℕ, zero, suc, ◌≡◌, refl, Bool, true, false, ◌&&◌, List, [], ◌∷◌, ◌++◌, eqb, take, drop}
use Rattle.std.proofs.lemmas.Bool.{false≢true}
use Rattle.std.proofs.Common.{eqb-true}
use Rattle.basis.specs.Choice.{and_true}
use Rattle.meaning.specs.Table.{entry_numbers}

unfoldable pub equal : List ℕ → List ℕ → Bool
equal [] [] = true
equal [] (y ∷ ys) = false
equal (x ∷ xs) [] = false
equal (x ∷ xs) (y ∷ ys) = eqb x y && equal xs ys

-- It is the test of equality.
pub equal-true : (xs ys : List ℕ) → equal xs ys ≡ true → xs ≡ ys
unfolding equal
equal-true [] [] e = refl
equal-true [] (y ∷ ys) e = absurd (false≢true e)
equal-true (x ∷ xs) [] e = absurd (false≢true e)
equal-true (x ∷ xs) (y ∷ ys) e =
    let both = and_true (eqb x y) (equal xs ys) e in
    let first = eqb-true x y both.0 in
    let more = equal-true xs ys both.1 in
    λ i. first i ∷ more i

-- The first eight of each eleven numbers.
unfoldable pub eights : (lines : ℕ) → List ℕ → List ℕ
eights zero t = []
eights (suc n) t = take 8 t ++ eights n (drop entry_numbers t)
