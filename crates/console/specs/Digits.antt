-- The number that a word of decimal digits writes.
-- Assumes nothing.
use Rattle.std.specs.Prelude.{ℕ, ◌+◌, ◌-◌, ◌*◌, ◌≤◌, Bool, List, [], ◌∷◌, leb, None, Option, Some}
use Rattle.std.proofs.Common.{arith, leb-true}
use Rattle.basis.specs.Choice.{pick, pick_cases}
use Rattle.basis.specs.Order.{within}

-- "0" to "9".
unfoldable pub is_digit : ℕ → Bool
is_digit b = within 48 57 b

abbrev pub one_more : (n byte : ℕ) → ℕ
one_more n b = 10 * n + (b - 48)

-- Digits that follow a number.
unfoldable pub decimal_from : (most n : ℕ) → List ℕ → Option ℕ
decimal_from most n [] = Some n
decimal_from most n (b ∷ bs) =
    let more = decimal_from most (one_more n b) bs in
    pick (is_digit b) (pick (leb (one_more n b) most) more None) None

-- At least one of them.
unfoldable pub decimal_in : (most : ℕ) → List ℕ → Option ℕ
decimal_in most [] = None
decimal_in most (b ∷ bs) = decimal_from most 0 (b ∷ bs)

-- ---- a number that is read is at most that

abbrev pub AtMost : (most : ℕ) → Option ℕ → Type 0
AtMost most (Some n) = n ≤ most
AtMost most None = Unit {0}

from-most : (most n : ℕ) (bs : List ℕ) → n ≤ most → AtMost most (decimal_from most n bs)
unfolding decimal_from
from-most most n [] h = h
from-most most n (b ∷ bs) h =
    pick_cases (AtMost most) (is_digit b)
    (λ _. pick_cases (AtMost most) (leb (one_more n b) most) (λ e. from-most most (one_more n b) bs (leb-true (one_more n b) most e)) (λ _. tt))
    (λ _. tt)

pub decimal_most : (most : ℕ) (bs : List ℕ) → AtMost most (decimal_in most bs)
unfolding decimal_in
decimal_most most [] = tt
decimal_most most (b ∷ bs) = from-most most 0 (b ∷ bs) (omega arith)
