-- The well-formed byte sequences of UTF-8, as the Unicode Standard lists them (Table 3-7).
-- Assumes nothing.
use Rattle.std.specs.Prelude.{Bool, true, false, ◌&&◌, ◌||◌, List, [], ◌∷◌, ℕ}
use Rattle.basis.specs.Order.{within}

-- A field of Table 3-7: the bytes from one to another, both included.
pub record Range : Type 0 where
  pub lo : ℕ
  pub hi : ℕ

-- A field as the table writes it, 80..BF.
infix 40 ◌to◌
abbrev pub ◌to◌ : ℕ → ℕ → Range
a to b = record { lo = a; hi = b }

-- Table 3-7, a line for each of its nine rows: the range of the first, second, third and fourth byte.
unfoldable pub rows : List (List Range)
rows =
    ((0x00 to 0x7F) ∷ [])
    ∷ ((0xC2 to 0xDF) ∷ (0x80 to 0xBF) ∷ [])
    ∷ ((0xE0 to 0xE0) ∷ (0xA0 to 0xBF) ∷ (0x80 to 0xBF) ∷ [])
    ∷ ((0xE1 to 0xEC) ∷ (0x80 to 0xBF) ∷ (0x80 to 0xBF) ∷ [])
    ∷ ((0xED to 0xED) ∷ (0x80 to 0x9F) ∷ (0x80 to 0xBF) ∷ [])
    ∷ ((0xEE to 0xEF) ∷ (0x80 to 0xBF) ∷ (0x80 to 0xBF) ∷ [])
    ∷ ((0xF0 to 0xF0) ∷ (0x90 to 0xBF) ∷ (0x80 to 0xBF) ∷ (0x80 to 0xBF) ∷ [])
    ∷ ((0xF1 to 0xF3) ∷ (0x80 to 0xBF) ∷ (0x80 to 0xBF) ∷ (0x80 to 0xBF) ∷ [])
    ∷ ((0xF4 to 0xF4) ∷ (0x80 to 0x8F) ∷ (0x80 to 0xBF) ∷ (0x80 to 0xBF) ∷ [])
    ∷ []

-- A row of Table 3-7 has a sequence: as many bytes as ranges, each in its own.
unfoldable pub fits : List Range → List ℕ → Bool
fits [] [] = true
fits [] (b ∷ s) = false
fits (r ∷ rs) [] = false
fits (r ∷ rs) (b ∷ s) = fits rs s && within r.lo r.hi b

-- One of some rows has it.
unfoldable pub some_fits : List (List Range) → List ℕ → Bool
some_fits [] s = false
some_fits (r ∷ rs) s = fits r s || some_fits rs s

-- Well-formed: some row of Table 3-7 has the sequence.
unfoldable pub well_formed : List ℕ → Bool
well_formed s = some_fits rows s
