-- The room of a line in glyphs. Two places in two boxes behind which the same count of glyphs fits, or at least as many as are asked for,
-- are told apart by nothing that takes whole glyphs (rule 4, rule 8).
-- Assumes nothing.
use Rattle.std.specs.Prelude.{ℕ, ◌+◌, ◌-◌, ◌*◌, ◌/◌, ◌≤◌, ◌<◌, min, ◌≡◌, false, leb, eqb}
use Rattle.std.proofs.Common.{sym, subst, ◌∙◌, one-mul, div-lt_iff_lt-mul, le-div_iff_mul-le, leb-true, leb-false, le-leb, eq-eqb, ne_eqb}
use Rattle.std.proofs.Math.Path.{ap}
use Rattle.std.proofs.Math.Nat.{add-mul, zero-div, add-mul-div_right}
use native.Mathlib.Omega.{arith}
use Rattle.basis.specs.Choice.{by_test}
use Rattle.basis.specs.Order.{by_le, by_eq}
use Rattle.meaning.specs.Cursor.{room_of, fits_in, advance, has_moved}
use Rattle.meaning.specs.declared.cursor.LineCursor.{LineCursor}
use Rattle.laws.specs.Steps.{too_wide}

-- ---- numbers

-- What is left of a width behind k glyphs, in glyphs.
pub glyphs-left : (g w k : ℕ) → 1 ≤ g → (w - k * g) / g ≡ w / g - k
glyphs-left g w k some =
    by_le (k * g) w
    (λ h.
    let e : w ≡ w - k * g + k * g = omega arith in
    let f : w / g ≡ (w - k * g) / g + k = ap (λ (x : ℕ). x / g) e ∙ add-mul-div_right (w - k * g) k some in
    omega (arith, f))
    (λ h.
    let e : w - k * g ≡ 0 = omega arith in
    let f : w / g < k = (div-lt_iff_lt-mul some).1 h in
    ap (λ (x : ℕ). x / g) e ∙ zero-div g ∙ (omega (arith, f)))

pub leb-alike : (m n x y : ℕ) → (m ≤ n → x ≤ y) → (x ≤ y → m ≤ n) → leb m n ≡ leb x y
leb-alike m n x y f g =
    by_test (leb m n) (λ e. e ∙ sym (le-leb x y (f (leb-true m n e))))
    (λ e. e ∙ sym (by_test (leb x y) (λ d. absurd (omega (arith, leb-false m n e, g (leb-true x y d)))) (λ d. d)))

-- ---- two cursors

-- Two cursors that have gone by the same count of glyphs from their starting places, and that c glyphs more do not tell apart.
pub record Near (g c : ℕ) (x y : LineCursor) : Type 0 where
  pub glyphs : ℕ
  pub here : x.position.0 ≡ x.start.0 + glyphs * g
  pub there : y.position.0 ≡ y.start.0 + glyphs * g
  pub alike : min (room_of x / g) c ≡ min (room_of y / g) c

-- A place that is no further on is the starting place.
stands_at : (start further : ℕ) → eqb (start + further) start ≡ eqb further 0
stands_at start further =
    by_eq further 0 (λ e. eq-eqb (start + further) start (omega arith) ∙ sym (eq-eqb further 0 e))
    (λ d. ne_eqb (start + further) start (λ e. d (omega arith)) ∙ sym (ne_eqb further 0 d))

module _ (g : ℕ) (some : 1 ≤ g) where
  -- Behind n glyphs so many fewer are left.
  room_moved : (x : LineCursor) (n : ℕ) → room_of (advance x (n * g)) / g ≡ room_of x / g - n
  unfolding room_of advance
  room_moved x n =
      let e : x.width.0 - (x.position.0 + n * g) ≡ x.width.0 - x.position.0 - n * g = omega arith in
      ap (λ (k : ℕ). k / g) e ∙ glyphs-left g (x.width.0 - x.position.0) n some

  -- So many glyphs fit in the one line exactly if they do in the other.
  pub fits-alike : (c : ℕ) (x y : LineCursor) (n : ℕ) → Near g c x y → n ≤ c → fits_in x (n * g) ≡ fits_in y (n * g)
  unfolding fits_in
  fits-alike c x y n m h =
      leb-alike (n * g) (room_of x) (n * g) (room_of y)
      (λ f. (le-div_iff_mul-le some).0 (omega (arith, (le-div_iff_mul-le {k = g} {x = n} {y = room_of x} some).1 f, m.alike)))
      (λ f. (le-div_iff_mul-le some).0 (omega (arith, (le-div_iff_mul-le {k = g} {x = n} {y = room_of y} some).1 f, m.alike)))

  -- Where they do not, the same count of glyphs is left.
  pub room-alike : (c : ℕ) (x y : LineCursor) (n : ℕ) → Near g c x y → n ≤ c → fits_in x (n * g) ≡ false → room_of x / g ≡ room_of y / g
  room-alike c x y n m h e =
      let less : room_of x / g < n = (div-lt_iff_lt-mul some).1 (too_wide x (n * g) e) in
      omega (arith, less, m.alike)

  -- Both go on by so many glyphs, or by none.
  pub near-moved : (c : ℕ) (x y : LineCursor) (n : ℕ) → Near g (n + c) x y → Near g c (advance x (n * g)) (advance y (n * g))
  unfolding advance
  near-moved c x y n m =
      let on = add-mul m.glyphs n g in
      record {
        glyphs = m.glyphs + n;
        here = omega (arith, m.here, on);
        there = omega (arith, m.there, on);
        alike = omega (arith, m.alike, room_moved x n, room_moved y n);
      }

  pub near-still : (c n : ℕ) (x y : LineCursor) → Near g (n + c) x y → Near g c x y
  near-still c n x y m = record { glyphs = m.glyphs; here = m.here; there = m.there; alike = omega (arith, m.alike) }

  -- Neither has left its starting place, or both have.
  pub moved-alike : (c : ℕ) (x y : LineCursor) → Near g c x y → has_moved x ≡ has_moved y
  unfolding has_moved
  moved-alike c x y m =
      let further = m.glyphs * g in
      rw (m.here, m.there, stands_at x.start.0 further, stands_at y.start.0 further)

  -- Both go on by one glyph.
  pub near-one : (c : ℕ) (x y : LineCursor) → Near g (1 + c) x y → Near g c (advance x g) (advance y g)
  near-one c x y m = subst (λ (k : ℕ). Near g c (advance x k) (advance y k)) (one-mul g) (near-moved c x y 1 m)
