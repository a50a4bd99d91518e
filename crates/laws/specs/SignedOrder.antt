-- The order of signed numbers, as tests: it is reflexive, transitive and total, and adding keeps it.
-- Assumes nothing.
use Rattle.std.specs.Prelude.{ℕ, suc, ◌+◌, ◌-◌, ◌≤◌, ◌≡◌, refl, true, not, ℤ, pos, negsuc, ◌+ℤ◌}
use Rattle.std.proofs.lemmas.Bool.{false≢true, lt-leb}
use Rattle.std.proofs.Common.{arith, lt-ltb, le-ltb, le-leb, leb-true}
use Rattle.std.specs.Int.Signed.{lt_z, le_z}
use Rattle.basis.specs.Order.{by_lt}

pub le_same : (a : ℤ) → le_z a a ≡ true
le_same (pos n) = le-leb n n (omega arith)
le_same (negsuc n) = le-leb n n (omega arith)

pub le_through : (a b c : ℤ) → le_z a b ≡ true → le_z b c ≡ true → le_z a c ≡ true
le_through (pos a) (pos b) (pos c) e f = le-leb a c (omega (arith, leb-true a b e, leb-true b c f))
le_through (pos a) (pos b) (negsuc c) e f = f
le_through (pos a) (negsuc b) c e f = absurd (false≢true e)
le_through (negsuc a) (pos b) (pos c) e f = refl
le_through (negsuc a) (pos b) (negsuc c) e f = absurd (false≢true f)
le_through (negsuc a) (negsuc b) (pos c) e f = refl
le_through (negsuc a) (negsuc b) (negsuc c) e f = le-leb c a (omega (arith, leb-true b a e, leb-true c b f))

-- A number is smaller than another exactly where that is not at most it.
pub lt_not_le : (a b : ℤ) → lt_z a b ≡ not (le_z b a)
lt_not_le (pos a) (pos b) = by_lt a b (λ h. rw (lt-ltb a b h, lt-leb b a h)) (λ h. rw (le-ltb a b h, le-leb b a h))
lt_not_le (pos a) (negsuc b) = refl
lt_not_le (negsuc a) (pos b) = refl
lt_not_le (negsuc a) (negsuc b) = by_lt b a (λ h. rw (lt-ltb b a h, lt-leb a b h)) (λ h. rw (le-ltb b a h, le-leb a b h))

-- The more is added, the larger is the sum.
pub le_added : (a : ℤ) (m n : ℕ) → m ≤ n → le_z (a +ℤ pos m) (a +ℤ pos n) ≡ true
le_added (pos a) m n h = le-leb (a + m) (a + n) (omega arith)
le_added (negsuc a) m n h =
    by_lt m (suc a)
    (λ p. by_lt n (suc a)
    (λ q. rw (lt-ltb m (suc a) p, lt-ltb n (suc a) q) (le-leb (suc a - suc n) (suc a - suc m) (omega arith)))
    (λ q. rw (lt-ltb m (suc a) p, le-ltb n (suc a) q)))
    (λ p. rw (le-ltb m (suc a) p, le-ltb n (suc a) (omega arith)) (le-leb (m - suc a) (n - suc a) (omega arith)))
