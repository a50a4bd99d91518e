-- Signed numbers and their 32 bits in two's complement.
-- Assumes nothing.
use Rattle.std.proofs.Common.{◌≡◌, ℕ, ◌≤◌, ◌<◌, refl, ap, ◌∙◌, arith, pos, negsuc, ℤ}
use borrow.Author.Tests.{lt-ltb, le-ltb}
use mir.Val.{to_z, of_z}
use mir.Syntax.{w32}
use mir.Facts.{to_z_pos}
use Rattle.basis.specs.Choice.{pick}
use Rattle.basis.specs.Order.{by_lt}
use Rattle.meaning.specs.LayoutFile.{bits_of}
use Rattle.meaning.specs.ReadFile.{signed_of}

pub bits_is : (z : ℤ) → of_z w32 z ≡ bits_of z
unfolding bits_of
bits_is (pos n) = refl
bits_is (negsuc n) = omega arith

low : (b : ℕ) → b < 2147483648 → pos b ≡ signed_of b
unfolding signed_of pick
low b h = rw (lt-ltb b 2147483648 h)

high : (b : ℕ) → 2147483648 ≤ b → to_z w32 b ≡ signed_of b
unfolding signed_of pick
high b h = rw (le-ltb b 2147483648 h) (ap negsuc (omega arith))

pub signed_is : (b : ℕ) → to_z w32 b ≡ signed_of b
signed_is b = by_lt b 2147483648 (λ h. to_z_pos w32 h ∙ low b h) (λ h. high b h)
