-- Widths of whole glyphs: sums and differences of such are such (rule 4).
-- Assumes nothing.
use Rattle.std.specs.Prelude.{ℕ, ◌+◌, ◌-◌, ◌*◌, ◌≤◌, ◌≡◌, refl}
use Rattle.std.proofs.Common.{sym, ap, ◌∙◌, add-mul, zero-mul, one-mul, mul-le-mul_right, arith}
use Rattle.basis.specs.Order.{by_le}

pub record Whole (g width : ℕ) : Type 0 where
  pub count : ℕ
  pub is : width ≡ count * g

pub no_glyph : (g : ℕ) → Whole g 0
no_glyph g = record { count = 0; is = sym (zero-mul g) }

pub one-glyph : (g : ℕ) → Whole g g
one-glyph g = record { count = 1; is = sym (one-mul g) }

pub many-glyphs : (g n : ℕ) → Whole g (n * g)
many-glyphs g n = record { count = n; is = refl }

pub more-glyphs : (g m n : ℕ) → Whole g m → Whole g n → Whole g (m + n)
more-glyphs g m n x y = record { count = x.count + y.count; is = omega (arith, x.is, y.is, add-mul x.count y.count g) }

less_times : (i j g : ℕ) → i * g - j * g ≡ (i - j) * g
less_times i j g =
    by_le j i
    (λ h.
    let e : i ≡ j + (i - j) = omega arith in
    let f : i * g ≡ j * g + (i - j) * g = ap (λ (k : ℕ). k * g) e ∙ add-mul j (i - j) g in
    omega (arith, f))
    (λ h.
    let e : i - j ≡ 0 = omega arith in
    let f = ap (λ (k : ℕ). k * g) e in
    let less : i * g ≤ j * g = mul-le-mul_right g (omega arith) in
    omega (arith, f, zero-mul g, less))

pub fewer-glyphs : (g m n : ℕ) → Whole g m → Whole g n → Whole g (m - n)
fewer-glyphs g m n x y =
    record { count = x.count - y.count; is = (λ i. x.is i - y.is i) ∙ less_times x.count y.count g }
