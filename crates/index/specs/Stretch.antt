-- A stretch of an index in which the last y at most a given one lies, and how it is halved (rule 11).
-- Assumes nothing.
use Rattle.std.specs.Prelude.{ℕ, ◌≤◌, ◌<◌, ◌+◌, ◌≡◌, true, false, List, ℤ, length, None, Ok, Some}
use Rattle.std.proofs.Common.{sym, ◌∙◌, arith}
use Rattle.std.proofs.lemmas.Bool.{false≢true}
use Rattle.std.specs.Int.Signed.{le_z}
use Rattle.basis.specs.Choice.{by_test}
use Rattle.meaning.specs.YIndex.{check_ys, find_in}
use Rattle.laws.specs.SignedOrder.{le_through}
use Rattle.laws.specs.Indexes.{y_at, Rising, ys-rise}
use Rattle.laws.specs.FoundLines.{found_none, found-last}

-- Line low has such a y, and none from high on has.
pub record Stretch (y : ℤ) (ys : List ℤ) (low high : ℕ) : Type 0 where
  pub some : low < high
  pub within : high ≤ length ys
  pub rising : Rising ys
  pub under : le_z (y_at ys low) y ≡ true
  pub above : (j : ℕ) → high ≤ j → j < length ys → le_z (y_at ys j) y ≡ false

-- All lines, of which there is one, where line 0 has such a y.
pub whole-stretch : (y : ℤ) (ys : List ℤ) → 0 < length ys → check_ys ys ≡ Ok tt → le_z (y_at ys 0) y ≡ true → Stretch y ys 0 (length ys)
whole-stretch y ys h g u =
    record { some = h; within = omega arith; rising = ys-rise ys g; under = u; above = λ j p q. absurd (omega arith) }

-- What follows a y that is not at most the given one is not either.
beyond : (y : ℤ) (ys : List ℤ) → Rising ys → (m : ℕ) → le_z (y_at ys m) y ≡ false → (j : ℕ) → m ≤ j → j < length ys → le_z (y_at ys j) y ≡ false
beyond y ys r m e j p h =
    by_test (le_z (y_at ys j) y) (λ t. absurd (false≢true (sym e ∙ le_through (y_at ys m) (y_at ys j) y (r m j p h) t))) (λ t. t)

module _ (y : ℤ) (ys : List ℤ) (low high : ℕ) (s : Stretch y ys low high) where
  -- One line is left: it is the one.
  pub one_left : high ≡ low + 1 → Some low ≡ find_in y ys
  one_left e =
      sym (found-last y ys low (record { within = omega (arith, s.within); under = s.under; after = λ j p h. s.above j (omega arith) h }))

  module _ (middle : ℕ) where
    pub upper_half : middle < high → le_z (y_at ys middle) y ≡ true → Stretch y ys middle high
    upper_half h e = record { some = h; within = s.within; rising = s.rising; under = e; above = s.above }

    pub lower_half : low < middle → middle ≤ high → le_z (y_at ys middle) y ≡ false → Stretch y ys low middle
    lower_half l h e =
        record {
          some = l;
          within = omega (arith, s.within);
          rising = s.rising;
          under = s.under;
          above = beyond y ys s.rising middle e;
        }

-- Where line 0 has no such y, no line has.
pub none_left_lem : (y : ℤ) (ys : List ℤ) → check_ys ys ≡ Ok tt → le_z (y_at ys 0) y ≡ false → None ≡ find_in y ys
none_left_lem y ys g e = sym (found_none y ys (λ j h. beyond y ys (ys-rise ys g) 0 e j (omega arith) h))
