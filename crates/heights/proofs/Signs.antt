-- Sums, differences and halves of signed numbers that are far from the ends of 32 bits: they fit, and are what they say.
-- Assumes nothing.
use Prim.Native.Nat.{ℕ, zero, suc, ◌+◌, ◌/◌, ◌≤◌, ◌<◌}
use mathlib.Core.Path.{◌≡◌}
use native.Mathlib.Omega.{arith}
use borrow.Author.Tests.{lt-ltb, le-ltb}
use lib.IntN.{ℤ, pos, negsuc, neg_ℤ, ◌+ℤ◌, ◌-ℤ◌}
use lib.Signed.{mag, quot_z}
use mir.Val.{SFits, to_z, of_z}
use mir.Syntax.{w32}
use mir.Facts.{to_z-of_z, to_z_pos}
use Rattle.basis.specs.Order.{by_lt}

-- How far from 0 a sum, a difference and a half are.
pub mag_sum : (a b : ℤ) → mag (a +ℤ b) ≤ mag a + mag b + 1
mag_sum (pos a) (pos b) = omega arith
mag_sum (pos a) (negsuc b) =
    by_lt a (suc b) (λ h. simp (lt-ltb a (suc b) h) (omega arith)) (λ h. simp (le-ltb a (suc b) h) (omega arith))
mag_sum (negsuc a) (pos b) =
    by_lt b (suc a) (λ h. simp (lt-ltb b (suc a) h) (omega arith)) (λ h. simp (le-ltb b (suc a) h) (omega arith))
mag_sum (negsuc a) (negsuc b) = omega arith

mag_negative : (n : ℕ) → mag (neg_ℤ (pos n)) ≤ n
mag_negative zero = omega arith
mag_negative (suc n) = omega arith

pub mag_less : (a : ℤ) (n : ℕ) → mag (a -ℤ pos n) ≤ mag a + n + 1
mag_less a n = omega (arith, mag_sum a (neg_ℤ (pos n)), mag_negative n)

pub mag_half : (z : ℤ) → mag (quot_z z (pos 2)) ≤ mag z + 1
mag_half (pos n) = omega arith
mag_half (negsuc n) = omega (arith, mag_negative (suc n / 2))

pub fits : (z : ℤ) → mag z < 2147483648 → SFits w32 z
fits z h = record { sfits = h }

-- A number as it is kept and read again.
pub kept : (z : ℤ) → mag z < 2147483648 → to_z w32 (of_z w32 z) ≡ z
kept z h = to_z-of_z (fits z h)

pub widened : (n : ℕ) → n < 2147483648 → to_z w32 n ≡ pos n
widened n h = to_z_pos w32 h

module _ (h t : ℕ) (small : h ≤ 4096) (limit : t ≤ 1000000000) where
  far : mag (pos h -ℤ pos t) < 1000010000
  far = omega (arith, mag_less (pos h) t)

  pub difference_fits : SFits w32 (to_z w32 h -ℤ to_z w32 t)
  difference_fits = rw (widened h (omega arith), widened t (omega arith)) (fits (pos h -ℤ pos t) (omega (arith, far)))

  pub difference_is : to_z w32 (of_z w32 (to_z w32 h -ℤ to_z w32 t)) ≡ pos h -ℤ pos t
  difference_is = rw (widened h (omega arith), widened t (omega arith)) (kept (pos h -ℤ pos t) (omega (arith, far)))

  half_far : mag (quot_z (pos h -ℤ pos t) (pos 2)) < 1000010001
  half_far = omega (arith, far, mag_half (pos h -ℤ pos t))

  pub half_fits : SFits w32 (quot_z (to_z w32 (of_z w32 (to_z w32 h -ℤ to_z w32 t))) (pos 2))
  half_fits = rw difference_is (fits (quot_z (pos h -ℤ pos t) (pos 2)) (omega (arith, half_far)))

  pub half_is : to_z w32 (of_z w32 (quot_z (to_z w32 (of_z w32 (to_z w32 h -ℤ to_z w32 t))) (pos 2))) ≡ quot_z (pos h -ℤ pos t) (pos 2)
  half_is = rw difference_is (kept (quot_z (pos h -ℤ pos t) (pos 2)) (omega (arith, half_far)))
