-- A rule of every number below a bound, proved by one test that the checker computes.
-- Assumes nothing.
use Rattle.std.specs.Prelude.{◌≡◌, refl, Bool, true, false, ◌&&◌, ℕ, zero, suc, ◌<◌, T, eqb}
use Rattle.std.proofs.Common.{subst, sym, not-suc-le-zero, arith, eqb→eq}
use Rattle.basis.specs.Order.{by_eq}

-- The test passes at each number below n.
abbrev pub every : (ℕ → Bool) → ℕ → Bool
every f zero = true
every f (suc n) = f n && every f n

first_of : (a b : Bool) → T (a && b) → T a
first_of true b t = tt
first_of false b t = t

second_of : (a b : Bool) → T (a && b) → T b
second_of true b t = t
second_of false b t = absurd t

pub every-at : (f : ℕ → Bool) (n : ℕ) → T (every f n) → (k : ℕ) → k < n → T (f k)
every-at f zero t k h = absurd (not-suc-le-zero h)
every-at f (suc n) t k h =
    by_eq k n (λ e. subst (λ (m : ℕ). T (f m)) (sym e) (first_of (f n) (every f n) t))
    (λ d. every-at f n (second_of (f n) (every f n) t) k (omega arith))

-- Two functions that give the same number at each number below n.
pub same-below : (f g : ℕ → ℕ) (n : ℕ) → T (every (λ k. eqb (f k) (g k)) n) → (k : ℕ) → k < n → f k ≡ g k
same-below f g n t k h = eqb→eq (f k) (g k) (every-at (λ j. eqb (f j) (g j)) n t k h)

-- Are two truth values the same.
abbrev pub same_truth : Bool → Bool → Bool
same_truth true b = b
same_truth false true = false
same_truth false false = true

same_truth_lem : (a b : Bool) → T (same_truth a b) → a ≡ b
same_truth_lem true true t = refl
same_truth_lem true false t = absurd t
same_truth_lem false true t = absurd t
same_truth_lem false false t = refl

-- Two tests that agree at each number below n.
pub agree-below : (f g : ℕ → Bool) (n : ℕ) → T (every (λ k. same_truth (f k) (g k)) n) → (k : ℕ) → k < n → f k ≡ g k
agree-below f g n t k h = same_truth_lem (f k) (g k) (every-at (λ j. same_truth (f j) (g j)) n t k h)
