-- Numbers compared one after the other.
-- Assumes nothing.
use Prim.Native.Nat.{ℕ, zero, suc, ◌+◌, ◌-◌, ◌*◌, ◌≤◌, ◌<◌}
use mathlib.Core.Path.{◌≡◌, refl, sym, ap, ◌∙◌}
use mathlib.Core.Bool.{Bool, true, false, ◌&&◌}
use mathlib.Core.List.{List, [], ◌∷◌, ◌++◌}
use native.Mathlib.Nat.{sub-zero}
use native.Mathlib.Omega.{arith}
use lib.Dec.{eqb}
use Rattle.std.specs.Cmp.Lexicographic.{pointwise}
use lib.ListN.{length, take, drop, drop_of_length-le, length-drop, length-append}
use lib.Seq.{drop-drop, length-take-le}
use Rattle.meaning.specs.Table.{entry_numbers}
use Rattle.replay.specs.Same.{equal, eights}

and_false : (p : Bool) → p && false ≡ false
and_false true = refl
and_false false = refl

-- Lists of different lengths are different.
pub unequal_length : (a b : List ℕ) → (length a ≡ length b → ⊥) → equal a b ≡ false
unfolding equal
unequal_length [] [] n = absurd (n refl)
unequal_length [] (y ∷ ys) n = refl
unequal_length (x ∷ xs) [] n = refl
unequal_length (x ∷ xs) (y ∷ ys) n = rw (unequal_length xs ys (λ e. n (ap suc e))) (and_false (eqb x y))

-- What std's `==` tests.
pub equal-pointwise : (xs ys : List ℕ) → pointwise eqb xs ys ≡ equal xs ys
unfolding equal
equal-pointwise [] [] = refl
equal-pointwise [] (y ∷ ys) = refl
equal-pointwise (x ∷ xs) [] = refl
equal-pointwise (x ∷ xs) (y ∷ ys) = ap (λ (p : Bool). eqb x y && p) (equal-pointwise xs ys)

-- ---- line after line

and_assoc : (p q r : Bool) → p && (q && r) ≡ p && q && r
and_assoc true q r = refl
and_assoc false q r = refl

-- Two parts are the same exactly if each is.
pub equal_append : (a b r : List ℕ) → length a ≤ length r → equal (a ++ b) r ≡ equal a (take (length a) r) && equal b (drop (length a) r)
unfolding equal
equal_append [] b r h = refl
equal_append (x ∷ a) b [] h = absurd (omega arith)
equal_append (x ∷ a) b (y ∷ r) h =
    rw (equal_append a b r (omega arith)) (and_assoc (eqb x y) (equal a (take (length a) r)) (equal b (drop (length a) r)))

eights-length : (n : ℕ) (t : List ℕ) → entry_numbers * n ≤ length t → length (eights n t) ≡ 8 * n
unfolding eights
eights-length zero t h = refl
eights-length (suc n) t h =
    let first = length-take-le 8 t (omega arith) in
    let more = eights-length n (drop entry_numbers t) (omega (arith, length-drop entry_numbers t)) in
    length-append (take 8 t) (eights n (drop entry_numbers t)) ∙ omega (arith, first, more)

-- Where other than eight numbers a line are recorded, something differs.
pub lines_unequal : (table recorded : List ℕ) (n : ℕ) → entry_numbers * n ≤ length table → (length recorded ≡ 8 * n → ⊥) → equal (eights n table) recorded ≡ false
lines_unequal table recorded n long wrong =
    unequal_length (eights n table) recorded (λ e. wrong (sym e ∙ eights-length n table long))

-- The lines from the k-th on, as the table and the recorded numbers have them.
abbrev pub lines_left : (table recorded : List ℕ) (n k : ℕ) → Bool
lines_left table recorded n k = equal (eights (n - k) (drop (entry_numbers * k) table)) (drop (8 * k) recorded)

module _ (table recorded : List ℕ) (n k : ℕ) (h : k < n) (long : entry_numbers * n ≤ length table) (right : length recorded ≡ 8 * n) where
  lines_step : lines_left table recorded n k
      ≡ equal (take 8 (drop (entry_numbers * k) table)) (take 8 (drop (8 * k) recorded)) && lines_left table recorded n (k + 1)
  unfolding eights
  lines_step =
      let t = drop (entry_numbers * k) table in
      let r = drop (8 * k) recorded in
      let one_less : n - k ≡ suc (n - (k + 1)) = omega arith in
      let eight : length (take 8 t) ≡ 8 = length-take-le 8 t (omega (arith, length-drop (entry_numbers * k) table)) in
      let table_on : drop entry_numbers t ≡ drop (entry_numbers * (k + 1)) table =
      drop-drop entry_numbers (entry_numbers * k) table ∙ ap (λ (j : ℕ). drop j table) (let e : entry_numbers * k + entry_numbers ≡ entry_numbers * (k + 1) = omega arith in e)
      in
      let recorded-on : drop 8 r ≡ drop (8 * (k + 1)) recorded =
      drop-drop 8 (8 * k) recorded ∙ ap (λ (j : ℕ). drop j recorded) (let e : 8 * k + 8 ≡ 8 * (k + 1) = omega arith in e)
      in
      ap (λ (m : ℕ). equal (eights m t) r) one_less
      ∙ equal_append (take 8 t) (eights (n - (k + 1)) (drop entry_numbers t)) r (omega (arith, eight, length-drop (8 * k) recorded))
      ∙ rw (eight, table_on, recorded-on)

  -- The parts that are compared, as they are lent: eight numbers each.
  abbrev parts : Bool
  parts = equal (take (entry_numbers * k + 8 - entry_numbers * k) (drop (entry_numbers * k) table)) (take (8 * k + 8 - 8 * k) (drop (8 * k) recorded))

  parts_are : parts ≡ equal (take 8 (drop (entry_numbers * k) table)) (take 8 (drop (8 * k) recorded))
  parts_are =
      let p : entry_numbers * k + 8 - entry_numbers * k ≡ 8 = omega arith in
      let q : 8 * k + 8 - 8 * k ≡ 8 = omega arith in
      rw (p, q)

  pub lines_same : parts ≡ true → lines_left table recorded n k ≡ lines_left table recorded n (k + 1)
  lines_same e = lines_step ∙ rw (sym parts_are ∙ e)

  pub lines_differ : parts ≡ false → lines_left table recorded n k ≡ false
  lines_differ e = lines_step ∙ rw (sym parts_are ∙ e)

pub lines-all : (table recorded : List ℕ) (n : ℕ) → equal (eights n table) recorded ≡ lines_left table recorded n 0
lines-all table recorded n = rw sub-zero

pub lines-done : (table recorded : List ℕ) (n k : ℕ) → n ≤ k → length recorded ≡ 8 * n → lines_left table recorded n k ≡ true
unfolding eights equal
lines-done table recorded n k h right =
    let none : n - k ≡ 0 = omega arith in
    let past : length recorded ≤ 8 * k = omega arith in
    rw (none, drop_of_length-le recorded past)
