-- A cursor's move by a signed distance, in its four cases.
-- Assumes nothing.
use Prim.Native.Nat.{ℕ, zero, suc, ◌-◌, ◌≤◌, ◌<◌}
use mathlib.Core.Path.{◌≡◌, refl, sym}
use mathlib.Core.Bool.{true, false, false≢true}
use native.Mathlib.Omega.{arith}
use lib.IntN.{ℤ, pos, negsuc, neg_ℤ, nat_abs, ◌-ℤ◌, +ℤ_idl}
use lib.Signed.{lt_z}
use mir.Val.{SFits}
use mir.Syntax.{w32}
use borrow.Author.Tests.{le-leb, lt-leb, ltb-true, ltb-false}
use Rattle.basis.specs.Choice.{pick}
use Rattle.meaning.specs.Cursor.{placed_at, room_of, advance, move_by}
use Rattle.meaning.specs.declared.cursor.LineCursor.{LineCursor}
use Rattle.meaning.specs.declared.cursor.Moved.TheVariants.{By, Room}
use Rattle.moves.specs.Moves.{room-moves, room_refuses}

-- ---- backward

-- A distance of n + 1 back, which the position allows.
pub record Back (p : ℕ) (z : ℤ) : Type 0 where
  pub n : ℕ
  pub is : z ≡ negsuc n
  pub turned : pos 0 -ℤ z ≡ pos (suc n)
  pub small : suc n ≤ p

-- The position turned round is an i32.
pub back_fits : (p : ℕ) → p ≤ 4096 → SFits w32 (pos 0 -ℤ pos p)
back_fits zero h = record { sfits = omega arith }
back_fits (suc p) h = rw (+ℤ_idl (negsuc p)) (record { sfits = omega arith })

pub back_in : (p : ℕ) (z : ℤ) → lt_z z (pos 0) ≡ true → lt_z z (pos 0 -ℤ pos p) ≡ false → Back p z
back_in p (pos n) e f = absurd (omega (arith, ltb-true n 0 e))
back_in zero (negsuc n) e f = absurd (false≢true (sym f))
back_in (suc p) (negsuc n) e f = record { n = n; is = refl; turned = +ℤ_idl (pos (suc n)); small = omega (arith, ltb-false p n (rw (+ℤ_idl (negsuc p)) at f)) }

too_far : (p n : ℕ) → lt_z (negsuc n) (pos 0 -ℤ pos p) ≡ true → p < suc n
too_far zero n e = omega arith
too_far (suc p) n e = omega (arith, ltb-true p n (rw (+ℤ_idl (negsuc p)) at e))

module _ (c : LineCursor) where
  pub back-moved : (z : ℤ) (n : ℕ) → z ≡ negsuc n → suc n ≤ c.position.0 → By z (placed_at c (c.position.0 - suc n)) ≡ move_by c z
  unfolding move_by pick
  back-moved z n e h = rw (e, le-leb _ _ h)

  back-not : (n : ℕ) → c.position.0 < suc n → Room (pos 0 -ℤ pos c.position.0) c ≡ move_by c (negsuc n)
  unfolding move_by pick
  back-not n h = rw (lt-leb _ _ h, +ℤ_idl (neg_ℤ (pos c.position.0)))

  pub back-out : (z : ℤ) → lt_z z (pos 0) ≡ true → lt_z z (pos 0 -ℤ pos c.position.0) ≡ true → Room (pos 0 -ℤ pos c.position.0) c ≡ move_by c z
  back-out (pos n) e f = absurd (omega (arith, ltb-true n 0 e))
  back-out (negsuc n) e f = back-not n (too_far c.position.0 n f)

-- ---- forward

pub record Ahead (r : ℕ) (z : ℤ) : Type 0 where
  pub n : ℕ
  pub is : z ≡ pos n
  pub size : nat_abs z ≡ n
  pub small : n ≤ r

pub ahead_in : (r : ℕ) (z : ℤ) → lt_z z (pos 0) ≡ false → lt_z (pos r) z ≡ false → Ahead r z
ahead_in r (pos n) e f = record { n = n; is = refl; size = refl; small = ltb-false r n f }
ahead_in r (negsuc n) e f = absurd (false≢true (sym e))

module _ (c : LineCursor) (r : ℕ) (is : r ≡ room_of c) where
  pub ahead-moved : (z : ℤ) (n : ℕ) → z ≡ pos n → n ≤ r → By z (advance c (nat_abs z)) ≡ move_by c z
  ahead-moved z n e h = rw e (sym (room-moves c n (omega arith)))

  pub ahead-out : (z : ℤ) → lt_z z (pos 0) ≡ false → lt_z (pos r) z ≡ true → Room (pos r) (advance c r) ≡ move_by c z
  ahead-out (pos n) e f = rw is (sym (room_refuses c n (omega (arith, ltb-true r n f))))
  ahead-out (negsuc n) e f = absurd (false≢true (sym e))
