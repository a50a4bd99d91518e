-- A buffer with numbers written to its front, but for the first ones, which are kept: what it then holds, and what it keeps.
-- Assumes nothing.
use Rattle.std.specs.Prelude.{ℕ, zero, suc, ◌≤◌, ◌<◌, ◌≡◌, refl, List, [], ◌∷◌, ◌++◌, length, take, drop}
use Rattle.std.proofs.Common.{ap, ◌∙◌, append_assoc, append-nil, arith, length-append, length-drop, take-append-drop, drop_of_length-le, take_at, drop_at, length-take-le}
use Rattle.basis.specs.Order.{by_le}
use Rattle.meaning.specs.Table.{written}
use Rattle.meaning.specs.Pages.{written_past}

-- Where nothing is kept, all are written; and what is right already may be kept.
pub past-none : (buffer xs : List ℕ) → written_past 0 buffer xs ≡ written buffer xs
unfolding written_past
past-none buffer xs = refl

pub past-right : (k : ℕ) (buffer xs : List ℕ) → take k buffer ≡ take k xs → written_past k buffer xs ≡ written buffer xs
unfolding written_past
past-right k buffer xs e = rw (e, take-append-drop)

-- Where all are kept, nothing is written.
whole : (k : ℕ) (xs : List ℕ) → take k xs ++ drop (length (take k xs)) xs ≡ xs
whole zero xs = refl
whole (suc k) [] = refl
whole (suc k) (x ∷ xs) = ap (◌∷◌ x) (whole k xs)

pub past_all : (k : ℕ) (buffer xs : List ℕ) → length xs ≤ k → written_past k buffer xs ≡ buffer
unfolding written_past written
past_all k buffer xs h = rw (drop_of_length-le xs h, append-nil) (whole k buffer)

-- What is kept is as it was.
pub past-kept : (k : ℕ) (buffer xs : List ℕ) → length xs ≤ length buffer → take k (written_past k buffer xs) ≡ take k buffer
unfolding written_past written
past-kept k buffer xs h =
    by_le k (length buffer) inside (λ q. ap (take k) (past_all k buffer xs (omega arith)))
  where
    inside : k ≤ length buffer → take k (written_past k buffer xs) ≡ take k buffer
    inside p = rw append_assoc (take_at (take k buffer) _ k (length-take-le k buffer p))

-- So is what lies past the last one.
pub past-behind : (k : ℕ) (buffer xs : List ℕ) → length xs ≤ length buffer
    → drop (length xs) (written_past k buffer xs) ≡ drop (length xs) buffer
unfolding written_past written
past-behind k buffer xs h = by_le (length xs) k (λ p. ap (drop (length xs)) (past_all k buffer xs p)) inside
  where
    inside : k < length xs → drop (length xs) (written_past k buffer xs) ≡ drop (length xs) buffer
    inside q =
        let ys = take k buffer ++ drop k xs in
        let e : length ys ≡ length xs =
        rw length-append (omega (arith, length-take-le k buffer (omega arith), length-drop k xs)) in
        drop_at ys (drop (length ys) buffer) (length xs) e ∙ ap (λ (m : ℕ). drop m buffer) e
