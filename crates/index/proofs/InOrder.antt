-- The check of an index, y by y (refusal 10).
-- Assumes nothing.
use Prim.Native.Nat.{ℕ, ◌+◌, ◌-◌, ◌≤◌, ◌<◌}
use Rattle.std.specs.Prelude.{Err, Ok}
use Rattle.meaning.specs.Refusals.{Checked}
use mathlib.Core.Path.{◌≡◌, refl, sym, ◌∙◌}
use mathlib.Core.Bool.{Bool, true, false, not}
use mathlib.Core.List.{List, [], ◌∷◌}
use native.Mathlib.Numerals.{add-one}
use native.Mathlib.Omega.{arith}
use borrow.Author.Tests.{eq-eqb, ne_eqb}
use lib.IntN.{ℤ, pos}
use lib.ListN.{length, drop, drop_of_length-le}
use lib.Seq.{drop-cons}
use lib.Signed.{lt_z, le_z}
use Rattle.basis.specs.Choice.{pick, pick_true, pick-false}
use Rattle.meaning.specs.YIndex.{check_rising, check_ys, check_index}
use Rattle.meaning.specs.declared.refusals.Refusal.TheVariants.{BadIndex}
use Rattle.laws.specs.SignedOrder.{lt_not_le}
use Rattle.laws.specs.Indexes.{y_at}

-- The ys from k on, behind the one before them.
abbrev pub checked_from : List ℤ → (k : ℕ) → Checked
checked_from ys k = check_rising k (y_at ys (k - 1)) (drop k ys)

pub order-start : (ys : List ℤ) → checked_from ys 1 ≡ check_ys ys
unfolding check_rising check_ys
order-start [] = refl
order-start (y ∷ ys) = refl

module _ (ys : List ℤ) (k : ℕ) where
  abbrev next : Checked
  next = checked_from ys (k + 1)

  turn : k < length ys → checked_from ys k ≡ pick (le_z (y_at ys (k - 1)) (y_at ys k)) next (Err (BadIndex k))
  unfolding check_rising
  turn h =
      let e : k + 1 - 1 ≡ k = omega arith in
      rw (drop-cons ys k (pos 0) h, e, add-one k)

  not_lower : lt_z (y_at ys k) (y_at ys (k - 1)) ≡ false → le_z (y_at ys (k - 1)) (y_at ys k) ≡ true
  not_lower e = opposite (le_z (y_at ys (k - 1)) (y_at ys k)) (sym (lt_not_le (y_at ys k) (y_at ys (k - 1))) ∙ e)
    where
      opposite : (t : Bool) → not t ≡ false → t ≡ true
      opposite true f = refl
      opposite false f = sym f

  lower : lt_z (y_at ys k) (y_at ys (k - 1)) ≡ true → le_z (y_at ys (k - 1)) (y_at ys k) ≡ false
  lower e = opposite (le_z (y_at ys (k - 1)) (y_at ys k)) (sym (lt_not_le (y_at ys k) (y_at ys (k - 1))) ∙ e)
    where
      opposite : (t : Bool) → not t ≡ true → t ≡ false
      opposite true f = sym f
      opposite false f = refl

  pub order-on : k < length ys → lt_z (y_at ys k) (y_at ys (k - 1)) ≡ false → checked_from ys k ≡ checked_from ys (k + 1)
  order-on h e = turn h ∙ pick_true _ _ _ (not_lower e)

  pub order_bad : k < length ys → lt_z (y_at ys k) (y_at ys (k - 1)) ≡ true → checked_from ys k ≡ Err (BadIndex k)
  order_bad h e = turn h ∙ pick-false _ _ _ (lower e)

  pub order-end : length ys ≤ k → checked_from ys k ≡ Ok tt
  unfolding check_rising
  order-end h = rw (drop_of_length-le ys h)

-- ---- the length, looked at first

module _ (lines : ℕ) (ys : List ℤ) where
  pub length-right : length ys ≡ lines → check_ys ys ≡ check_index lines ys
  unfolding check_index
  length-right e = sym (pick_true _ _ _ (eq-eqb _ _ e))

  pub length_wrong : (length ys ≡ lines → ⊥) → Err (BadIndex (length ys)) ≡ check_index lines ys
  unfolding check_index
  length_wrong d = sym (pick-false _ _ _ (ne_eqb _ _ d))
