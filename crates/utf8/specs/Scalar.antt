-- Which numbers are characters: the scalar values of the Unicode Standard, chapter 3.
-- Assumes nothing.
use Rattle.std.specs.Prelude.{ℕ, ◌≤◌, ◌<◌, ◌⊎◌, List, [], ◌∷◌}

-- D76, a Unicode scalar value: a code point that is no surrogate, 0 to D7FF or E000 to 10FFFF.
abbrev pub Scalar : ℕ → Type 0
Scalar c = (c < 0xD800) ⊎ ((0xE000 ≤ c) × (c ≤ 0x10FFFF))

-- Each number of a list is a scalar value (D76).
abbrev pub Scalars : List ℕ → Type 0
Scalars [] = Unit {0}
Scalars (c ∷ cs) = Scalar c × Scalars cs
