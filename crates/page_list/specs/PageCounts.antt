-- How many pages so many lines take, as it is computed, and which lines they begin with (rule 10).
-- Assumes nothing.
use Prim.Native.Nat.{ℕ, suc, ◌+◌, ◌-◌, ◌*◌, ◌/◌, ◌≤◌, ◌<◌}
use Rattle.std.specs.Prelude.{◌≡◌}
use Rattle.std.specs.Int.{div_ceil}
use Rattle.std.proofs.Math.Nat.{suc-mul, div-mul-le_self}
use Rattle.std.proofs.lemmas.Grind.{div_ceil_times}
use Rattle.std.proofs.Common.{le-div_iff_mul-le}
use native.Mathlib.Omega.{arith}
use Rattle.basis.specs.Order.{by_le}
use Rattle.laws.specs.PageLaws.{page_count}

module _ (h : ℕ) (some : 1 ≤ h) where
  -- A quotient that is rounded up is one of a sum that is rounded down.
  pub count-is : (n : ℕ) → div_ceil n h ≡ page_count h n
  unfolding page_count
  count-is n =
      let q = div_ceil n h in
      let t = div_ceil_times n h some in
      let low : q ≤ (n + (h - 1)) / h = (le-div_iff_mul-le some).1 (omega (arith, t.1)) in
      let high : (n + (h - 1)) / h ≤ q =
      by_le ((n + (h - 1)) / h) q (λ p. p)
      (λ p. absurd (omega (arith, (le-div_iff_mul-le {k = h} {x = suc q} {y = n + (h - 1)} some).0 p, suc-mul q h, t.0))) in
      omega (arith, low, high)

  -- More lines take no fewer pages.
  pub count-grows : (n m : ℕ) → n ≤ m → page_count h n ≤ page_count h m
  unfolding page_count
  count-grows n m p = (le-div_iff_mul-le some).1 (omega (arith, div-mul-le_self (n + (h - 1)) h))

  -- A page that there is begins with a line that there is.
  pub begins-within : (k n : ℕ) → k < page_count h n → k * h < n
  unfolding page_count
  begins-within k n p =
      let q = (le-div_iff_mul-le {k = h} {x = suc k} {y = n + (h - 1)} some).0 (omega arith) in
      omega (arith, q, suc-mul k h)

  -- And behind the last line no page begins.
  pub none-behind : (k n : ℕ) → n ≤ k * h → page_count h n ≤ k
  none-behind k n p = by_le (page_count h n) k (λ q. q) (λ q. absurd (omega (arith, begins-within k n q)))
