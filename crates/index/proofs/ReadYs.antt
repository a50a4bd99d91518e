-- Signed numbers of 32 bits as they are read again: tests of two of them, and a y that is passed on.
-- Assumes nothing.
use Prim.Native.Nat.{ℕ}
use mathlib.Core.Path.{◌≡◌, sym, ap, subst}
use mathlib.Core.Bool.{Bool}
use mathlib.Core.List.{List}
use lib.IntN.{ℤ}
use lib.Signed.{lt_z, le_z}
use mir.Facts.{to_z-of_z}
use mir.Syntax.{w32}
use mir.Val.{SFits, to_z, of_z}
use Rattle.meaning.specs.YIndex.{find_in}
use Rattle.index.specs.Stretch.{Stretch}

module _ (a b : ℤ) (t : Bool) (f : SFits w32 a) (g : SFits w32 b) where
  pub read_lower : lt_z (to_z w32 (of_z w32 a)) (to_z w32 (of_z w32 b)) ≡ t → lt_z a b ≡ t
  read_lower e = rw (to_z-of_z f, to_z-of_z g) at e

  pub read-most : le_z (to_z w32 (of_z w32 a)) (to_z w32 (of_z w32 b)) ≡ t → le_z a b ≡ t
  read-most e = rw (to_z-of_z f, to_z-of_z g) at e

module _ (y : ℤ) (f : SFits w32 y) (ys : List ℤ) where
  pub passed-stretch : (low high : ℕ) → Stretch y ys low high → Stretch (to_z w32 (of_z w32 y)) ys low high
  passed-stretch low high s = subst (λ (z : ℤ). Stretch z ys low high) (sym (to_z-of_z f)) s

  pub passed-found : find_in (to_z w32 (of_z w32 y)) ys ≡ find_in y ys
  passed-found = ap (λ (z : ℤ). find_in z ys) (to_z-of_z f)
