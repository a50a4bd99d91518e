-- UTF-8 as it is written (the Unicode Standard, D92): the bytes of a scalar value, and of a list of them. A byte is a number
-- below 256.
-- Assumes nothing.
use Rattle.std.specs.Prelude.{◌≡◌, List, [], ◌∷◌, ◌++◌, ℕ, ◌+◌, ◌/◌, ◌%◌, ltb}
use Rattle.basis.specs.Choice.{pick}
use Rattle.utf8.specs.Scalar.{Scalars}

-- Table 3-6: each byte after the first is 10 and six bits, here the lowest six of a number.
abbrev pub trail : ℕ → ℕ
trail x = 0x80 + x % 64

-- D92, Table 3-6: the bits of a scalar value, spread over one to four bytes. A row of the table for each range.
unfoldable pub encode : ℕ → List ℕ
encode c =
    pick (ltb c 0x80) (c ∷ [])
    (pick (ltb c 0x800) ((0xC0 + c / 64) ∷ trail c ∷ [])
    (pick (ltb c 0x10000) ((0xE0 + c / 4096) ∷ trail (c / 64) ∷ trail c ∷ [])
    ((0xF0 + c / 262144) ∷ trail (c / 4096) ∷ trail (c / 64) ∷ trail c ∷ [])))

-- Table 3-6: how many bytes a scalar value takes, by its range alone.
unfoldable pub bytes : ℕ → ℕ
bytes c = pick (ltb c 0x80) 1 (pick (ltb c 0x800) 2 (pick (ltb c 0x10000) 3 4))

-- How many bytes a list of scalar values takes (Table 3-6).
unfoldable pub size : List ℕ → ℕ
size [] = 0
size (c ∷ cs) = bytes c + size cs

-- D92: the bytes of a list of scalar values, one after the other.
unfoldable pub encode_all : List ℕ → List ℕ
encode_all [] = []
encode_all (c ∷ cs) = encode c ++ encode_all cs

-- D92: bytes are UTF-8 if they are those of some list of scalar values.
pub record Text (s : List ℕ) : Type 0 where
  pub scalars : List ℕ
  pub all : Scalars scalars
  pub is : s ≡ encode_all scalars
