-- Table 3-7 by how many bytes a sequence has: its rows say that the lead and the other bytes lie in their ranges, that no
-- shorter sequence says the same, and that the number is a scalar value.
-- Assumes nothing.
use Rattle.std.specs.Prelude.{◌≡◌, refl, Bool, true, List, [], ◌∷◌, ℕ, ◌≤◌, ◌<◌}
use Rattle.std.proofs.Math.Logic.{inl, inr}
use Rattle.std.proofs.Common.{⊎_elim}
use Rattle.std.proofs.Math.Bool.{false, or-false}
use Rattle.std.proofs.lemmas.Bool.{false≢true}
use native.Mathlib.Omega.{arith}
use Rattle.basis.specs.Choice.{and_true, and_both, by-either, either_first, either_second}
use Rattle.basis.specs.Order.{by_lt, within, within-true, within-is}
use Rattle.utf8.specs.Scalar.{Scalar}
use Rattle.utf8.specs.Decoding.{value3, value4}
use Rattle.utf8.specs.WellFormed.{Range, ◌to◌, rows, fits, some_fits, well_formed}

-- Each byte lies in its range.
abbrev Fits : List Range → List ℕ → Type 0
Fits [] [] = Unit {0}
Fits [] (b ∷ s) = ⊥
Fits (r ∷ rs) [] = ⊥
Fits (r ∷ rs) (b ∷ s) = Fits rs s × ((r.lo ≤ b) × (b ≤ r.hi))

fits-true : (rs : List Range) (s : List ℕ) → fits rs s ≡ true → Fits rs s
unfolding fits
fits-true [] [] e = tt
fits-true [] (b ∷ s) e = false≢true e
fits-true (r ∷ rs) [] e = false≢true e
fits-true (r ∷ rs) (b ∷ s) e =
    let p = and_true (fits rs s) (within r.lo r.hi b) e in
    (fits-true rs s p.0, within-true r.lo r.hi b p.1)

fits-is : (rs : List Range) (s : List ℕ) → Fits rs s → fits rs s ≡ true
unfolding fits
fits-is [] [] f = refl
fits-is [] (b ∷ s) f = absurd f
fits-is (r ∷ rs) [] f = absurd f
fits-is (r ∷ rs) (b ∷ s) f = and_both (fits rs s) (within r.lo r.hi b) (fits-is rs s f.0) (within-is r.lo r.hi b f.1.0 f.1.1)

-- A byte that continues a sequence.
abbrev pub Cont : ℕ → Type 0
Cont b = (0x80 ≤ b) × (b ≤ 0xBF)

-- What the rows of two, of three and of four bytes ask.
pub record Two (a b : ℕ) : Type 0 where
  pub lead : (0xC2 ≤ a) × (a ≤ 0xDF)
  pub second : Cont b

pub record Three (a b c : ℕ) : Type 0 where
  pub lead : (0xE0 ≤ a) × (a ≤ 0xEF)
  pub second : Cont b
  pub third : Cont c
  pub long : 0x800 ≤ value3 a b c
  pub scalar : Scalar (value3 a b c)

pub record Four (a b c d : ℕ) : Type 0 where
  pub lead : (0xF0 ≤ a) × (a ≤ 0xF4)
  pub second : Cont b
  pub third : Cont c
  pub fourth : Cont d
  pub long : 0x10000 ≤ value4 a b c d
  pub scalar : value4 a b c d ≤ 0x10FFFF

-- One byte.
abbrev row1 : List Range
row1 = (0x00 to 0x7F) ∷ []

pub one-true : (a : ℕ) → well_formed (a ∷ []) ≡ true → a < 0x80
unfolding well_formed rows some_fits fits
one-true a e = let f = fits-true row1 (a ∷ []) (rw (or-false (fits row1 (a ∷ []))) at e) in omega arith

pub one-is : (a : ℕ) → a < 0x80 → well_formed (a ∷ []) ≡ true
unfolding well_formed rows some_fits fits
one-is a h = rw (or-false (fits row1 (a ∷ []))) (fits-is row1 (a ∷ []) (tt, omega arith))

-- Two bytes.
abbrev row2 : List Range
row2 = (0xC2 to 0xDF) ∷ (0x80 to 0xBF) ∷ []

module _ (a b : ℕ) where
  pub two-true : well_formed (a ∷ b ∷ []) ≡ true → Two a b
  unfolding well_formed rows some_fits fits
  two-true e =
      let f = fits-true row2 (a ∷ b ∷ []) (rw (or-false (fits row2 (a ∷ b ∷ []))) at e) in
      record { lead = f.1; second = f.0.1 }

  pub two_is : Two a b → well_formed (a ∷ b ∷ []) ≡ true
  unfolding well_formed rows some_fits fits
  two_is t = rw (or-false (fits row2 (a ∷ b ∷ []))) (fits-is row2 (a ∷ b ∷ []) ((tt, t.second), t.lead))

-- Three bytes: the rows differ in the lead's and the second byte's range.
abbrev row3 : (lo hi low high : ℕ) → List Range
row3 lo hi low high = (lo to hi) ∷ (low to high) ∷ (0x80 to 0xBF) ∷ []

module _ (a b c : ℕ) where
  abbrev in3 : (lo hi low high : ℕ) → Bool
  in3 lo hi low high = fits (row3 lo hi low high) (a ∷ b ∷ c ∷ [])

  bounds3 : (lo hi low high : ℕ) → in3 lo hi low high ≡ true → ((lo ≤ a) × (a ≤ hi)) × ((low ≤ b) × (b ≤ high)) × Cont c
  bounds3 lo hi low high e = let f = fits-true (row3 lo hi low high) (a ∷ b ∷ c ∷ []) e in (f.1, f.0.1, f.0.0.1)

  hold3 : (lo hi low high : ℕ) → ((lo ≤ a) × (a ≤ hi)) × ((low ≤ b) × (b ≤ high)) × Cont c → in3 lo hi low high ≡ true
  hold3 lo hi low high f = fits-is (row3 lo hi low high) (a ∷ b ∷ c ∷ []) (((tt, f.2), f.1), f.0)

  pub three-true : well_formed (a ∷ b ∷ c ∷ []) ≡ true → Three a b c
  unfolding well_formed rows some_fits fits
  three-true e =
      by-either (in3 0xE0 0xE0 0xA0 0xBF) _ e
      (λ p. let f = bounds3 0xE0 0xE0 0xA0 0xBF p in
      record { lead = omega arith; second = omega arith; third = f.2; long = omega arith; scalar = inl (omega arith) })
      λ e1. by-either (in3 0xE1 0xEC 0x80 0xBF) _ e1
      (λ p. let f = bounds3 0xE1 0xEC 0x80 0xBF p in
      record { lead = omega arith; second = f.1; third = f.2; long = omega arith; scalar = inl (omega arith) })
      λ e2. by-either (in3 0xED 0xED 0x80 0x9F) _ e2
      (λ p. let f = bounds3 0xED 0xED 0x80 0x9F p in
      record { lead = omega arith; second = omega arith; third = f.2; long = omega arith; scalar = inl (omega arith) })
      λ e3. by-either (in3 0xEE 0xEF 0x80 0xBF) false e3
      (λ p. let f = bounds3 0xEE 0xEF 0x80 0xBF p in
      record { lead = omega arith; second = f.1; third = f.2; long = omega arith; scalar = inr (omega arith) })
      λ n. absurd (false≢true n)

  pub three-is : Three a b c → well_formed (a ∷ b ∷ c ∷ []) ≡ true
  unfolding well_formed rows some_fits fits
  three-is t =
      by_lt a 0xE1 (λ h. either_first (in3 0xE0 0xE0 0xA0 0xBF) _ (hold3 0xE0 0xE0 0xA0 0xBF (omega arith)))
      λ g. either_second (in3 0xE0 0xE0 0xA0 0xBF) _
      (by_lt a 0xED (λ h. either_first (in3 0xE1 0xEC 0x80 0xBF) _ (hold3 0xE1 0xEC 0x80 0xBF (omega arith)))
      λ g2. either_second (in3 0xE1 0xEC 0x80 0xBF) _
      (by_lt a 0xEE (λ h. either_first (in3 0xED 0xED 0x80 0x9F) _ (hold3 0xED 0xED 0x80 0x9F (⊎_elim (λ s. omega arith) (λ s. omega arith) t.scalar)))
      λ g3. either_second (in3 0xED 0xED 0x80 0x9F) _
      (either_first (in3 0xEE 0xEF 0x80 0xBF) _ (hold3 0xEE 0xEF 0x80 0xBF (omega arith)))))

-- Four bytes.
abbrev row4 : (lo hi low high : ℕ) → List Range
row4 lo hi low high = (lo to hi) ∷ (low to high) ∷ (0x80 to 0xBF) ∷ (0x80 to 0xBF) ∷ []

module _ (a b c d : ℕ) where
  abbrev in4 : (lo hi low high : ℕ) → Bool
  in4 lo hi low high = fits (row4 lo hi low high) (a ∷ b ∷ c ∷ d ∷ [])

  bounds4 : (lo hi low high : ℕ) → in4 lo hi low high ≡ true → ((lo ≤ a) × (a ≤ hi)) × ((low ≤ b) × (b ≤ high)) × Cont c × Cont d
  bounds4 lo hi low high e = let f = fits-true (row4 lo hi low high) (a ∷ b ∷ c ∷ d ∷ []) e in (f.1, f.0.1, f.0.0.1, f.0.0.0.1)

  hold4 : (lo hi low high : ℕ) → ((lo ≤ a) × (a ≤ hi)) × ((low ≤ b) × (b ≤ high)) × Cont c × Cont d → in4 lo hi low high ≡ true
  hold4 lo hi low high f = fits-is (row4 lo hi low high) (a ∷ b ∷ c ∷ d ∷ []) ((((tt, f.3), f.2), f.1), f.0)

  pub four-true : well_formed (a ∷ b ∷ c ∷ d ∷ []) ≡ true → Four a b c d
  unfolding well_formed rows some_fits fits
  four-true e =
      by-either (in4 0xF0 0xF0 0x90 0xBF) _ e
      (λ p. let f = bounds4 0xF0 0xF0 0x90 0xBF p in
      record { lead = omega arith; second = omega arith; third = f.2; fourth = f.3; long = omega arith; scalar = omega arith })
      λ e1. by-either (in4 0xF1 0xF3 0x80 0xBF) _ e1
      (λ p. let f = bounds4 0xF1 0xF3 0x80 0xBF p in
      record { lead = omega arith; second = f.1; third = f.2; fourth = f.3; long = omega arith; scalar = omega arith })
      λ e2. by-either (in4 0xF4 0xF4 0x80 0x8F) false e2
      (λ p. let f = bounds4 0xF4 0xF4 0x80 0x8F p in
      record { lead = omega arith; second = omega arith; third = f.2; fourth = f.3; long = omega arith; scalar = omega arith })
      λ n. absurd (false≢true n)

  pub four_is : Four a b c d → well_formed (a ∷ b ∷ c ∷ d ∷ []) ≡ true
  unfolding well_formed rows some_fits fits
  four_is t =
      by_lt a 0xF1 (λ h. either_first (in4 0xF0 0xF0 0x90 0xBF) _ (hold4 0xF0 0xF0 0x90 0xBF (omega arith)))
      λ g. either_second (in4 0xF0 0xF0 0x90 0xBF) _
      (by_lt a 0xF4 (λ h. either_first (in4 0xF1 0xF3 0x80 0xBF) _ (hold4 0xF1 0xF3 0x80 0xBF (omega arith)))
      λ g2. either_second (in4 0xF1 0xF3 0x80 0xBF) _
      (either_first (in4 0xF4 0xF4 0x80 0x8F) _ (hold4 0xF4 0xF4 0x80 0x8F (omega arith))))

-- No row has more bytes.
pub five_false : (a b c d e : ℕ) (s : List ℕ) → well_formed (a ∷ b ∷ c ∷ d ∷ e ∷ s) ≡ false
unfolding well_formed rows some_fits fits
five_false a b c d e s = refl
