-- White_Space by its ten ranges: a number in one of them has the property, a number in none of them has it not.
-- Assumes nothing.
use mathlib.Core.Path.{◌≡◌, refl, sym, subst}
use mathlib.Core.Logic.{inl, inr}
use mathlib.Core.Bool.{Bool, true, false, ◌&&◌}
use mathlib.Core.List.{List, [], ◌∷◌, ◌++◌}
use Prim.Native.Nat.{ℕ, ◌+◌, ◌-◌, ◌≤◌, ◌<◌}
use native.Mathlib.Omega.{arith}
use types.Run.{OneOf}
use lib.Dec.{T}
use borrow.Author.Tests.{ne_eqb}
use Rattle.basis.specs.Choice.{and_true}
use Rattle.basis.specs.Tables.{every, same_truth, agree-below}
use Rattle.utf8.specs.WhiteSpace.{white_spaces, member, is_white}
use Rattle.utf8.specs.Members.{only, in_gap}

-- Every number of a list is white space: a test that computes.
unfoldable all_white : List ℕ → Bool
all_white [] = true
all_white (x ∷ xs) = is_white x && all_white xs

-- The ranges that are one number each.
abbrev pub low_singles : List ℕ
low_singles = 0x0020 ∷ 0x0085 ∷ 0x00A0 ∷ 0x1680 ∷ []

abbrev pub high_singles : List ℕ
high_singles = 0x202F ∷ 0x205F ∷ 0x3000 ∷ []

module _ (c : ℕ) where
  -- ---- in a range

  one_of : (l : List ℕ) → all_white l ≡ true → OneOf l c → is_white c ≡ true
  unfolding all_white
  one_of [] t m = absurd m
  one_of (x ∷ []) t e = rw e (and_true (is_white x) true t).0
  one_of (x ∷ y ∷ l) t (inl e) = rw e (and_true (is_white x) (all_white (y ∷ l)) t).0
  one_of (x ∷ y ∷ l) t (inr m) = one_of (y ∷ l) (and_true (is_white x) (all_white (y ∷ l)) t).1 m

  -- One of n numbers in a row.
  in_row : (first n : ℕ) → T (every (λ k. same_truth (is_white (first + k)) true) n) → first ≤ c → c < first + n → is_white c ≡ true
  in_row first n t a b =
      let e : first + (c - first) ≡ c = omega arith in
      subst (λ (x : ℕ). is_white x ≡ true) e (agree-below (λ (k : ℕ). is_white (first + k)) (λ (k : ℕ). true) n t (c - first) (omega arith))

  pub in_single : OneOf (low_singles ++ high_singles) c → is_white c ≡ true
  unfolding all_white is_white white_spaces member
  in_single = one_of (low_singles ++ high_singles) refl

  pub in_controls : 0x0009 ≤ c → c < 0x000E → is_white c ≡ true
  unfolding is_white white_spaces member
  in_controls = in_row 0x0009 5 tt

  pub in_quads : 0x2000 ≤ c → c < 0x200B → is_white c ≡ true
  unfolding is_white white_spaces member
  in_quads = in_row 0x2000 11 tt

  pub in_separators : 0x2028 ≤ c → c < 0x202A → is_white c ≡ true
  unfolding is_white white_spaces member
  in_separators = in_row 0x2028 2 tt

  -- ---- in none

  -- None of a list.
  abbrev pub Apart : List ℕ → Type 0
  Apart [] = Unit
  Apart (x ∷ xs) = (c ≡ x → ⊥) × Apart xs

  apart-not : (l : List ℕ) → Apart l → member c l ≡ false
  unfolding member
  apart-not [] n = refl
  apart-not (x ∷ xs) n = rw (ne_eqb x c (λ e. n.0 (sym e))) (apart-not xs n.1)

  -- In a gap but for some, and none of these.
  in_none : (lo hi : ℕ) (some : List ℕ) → only lo hi some white_spaces ≡ true → lo ≤ c → c < hi → Apart some → is_white c ≡ false
  unfolding is_white
  in_none lo hi some t a b n = in_gap lo hi some c white_spaces t a b (apart-not some n)

  pub below_controls : c < 0x0009 → is_white c ≡ false
  unfolding white_spaces only member
  below_controls h = in_none 0 0x0009 [] refl (omega arith) h tt

  pub below_quads : 0x000E ≤ c → c < 0x2000 → Apart low_singles → is_white c ≡ false
  unfolding white_spaces only member
  below_quads = in_none 0x000E 0x2000 low_singles refl

  pub past_separators : 0x202A ≤ c → c < 0x3001 → Apart high_singles → is_white c ≡ false
  unfolding white_spaces only member
  past_separators = in_none 0x202A 0x3001 high_singles refl
