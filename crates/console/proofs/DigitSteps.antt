-- One digit off the front of those that are left.
-- Assumes nothing.
use Prim.Native.Nat.{ℕ, ◌+◌, ◌-◌, ◌*◌, ◌≤◌, ◌<◌}
use Rattle.std.specs.Prelude.{None, Some}
use native.Mathlib.Numerals.{add-one}
use mathlib.Core.Path.{◌≡◌, refl}
use mathlib.Core.Bool.{true, false}
use mathlib.Core.List.{List, [], ◌∷◌}
use native.Mathlib.Omega.{arith}
use lib.ListN.{length, get_or, drop, drop_of_length-le}
use lib.Seq.{drop-cons}
use borrow.Author.Tests.{le-leb, lt-leb}
use Rattle.basis.specs.Choice.{pick}
use Rattle.basis.specs.Order.{within-is, within-not}
use Rattle.std.specs.Char.{IsNotAsciiDigit}
use Rattle.std.proofs.Common.{inl, inr}
use Rattle.console.specs.Digits.{is_digit, one_more, decimal_from, decimal_in}

module _ (most n : ℕ) (word : List ℕ) (i : ℕ) where
  abbrev byte : ℕ
  byte = get_or word i 0

  pub none_left_lem : length word ≤ i → decimal_from most n (drop i word) ≡ Some n
  unfolding decimal_from
  none_left_lem h = rw (drop_of_length-le word h)

  module _ (h : i < length word) where
    pub no_digit : is_digit byte ≡ false → decimal_from most n (drop i word) ≡ None
    unfolding decimal_from pick
    no_digit e = rw (drop-cons word i 0, e)

    -- A digit, and what it is worth.
    module _ (e : is_digit byte ≡ true) (d : ℕ) (is : d ≡ byte - 48) where
      pub too_high : most < 10 * n + d → decimal_from most n (drop i word) ≡ None
      unfolding decimal_from pick
      too_high l = rw (drop-cons word i 0, e, lt-leb (one_more n byte) most (omega (arith, is)))

      pub one_more_lem : 10 * n + d ≤ most → decimal_from most n (drop i word) ≡ decimal_from most (10 * n + d) (drop (i + 1) word)
      unfolding decimal_from pick
      one_more_lem l = rw (add-one, is, drop-cons word i 0, e, le-leb (one_more n byte) most (omega (arith, is)))

-- What std's test of a digit says.
pub is_one : (b : ℕ) → (48 ≤ b) × (b ≤ 57) → is_digit b ≡ true
unfolding is_digit
is_one b h = within-is 48 57 b h.0 h.1

pub is_none : (b : ℕ) → IsNotAsciiDigit b → is_digit b ≡ false
unfolding is_digit
is_none b h = within-not 48 57 b (λ p q. elim h [ inl l ↦ omega arith | inr l ↦ omega arith ])

pub some-digits : (most : ℕ) (word : List ℕ) → 1 ≤ length word → decimal_in most word ≡ decimal_from most 0 word
unfolding decimal_in
some-digits most [] h = absurd (omega arith)
some-digits most (b ∷ bs) h = refl

pub no_digits : (most : ℕ) (word : List ℕ) → length word ≡ 0 → decimal_in most word ≡ None
unfolding decimal_in
no_digits most [] h = refl
no_digits most (b ∷ bs) h = absurd (omega arith)
