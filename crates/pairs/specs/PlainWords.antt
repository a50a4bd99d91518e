-- Words of ASCII, and one space before such a word, as they are told by their bytes.
-- Assumes nothing.
use Rattle.std.specs.Prelude.{◌≡◌, true, List, ℕ, ◌+◌}
use Rattle.parser.specs.Ascii.{plain_at, space_at, ender_at}
use Rattle.parser.specs.Letters.{Lettered}

-- A word of plain bytes from one position to another.
pub record PlainWord (t : List ℕ) (from end : ℕ) : Type 0 where
  pub first : plain_at t from ≡ true
  pub letters : Lettered t (from + 1) end
  pub ends : ender_at t end ≡ true

-- One space, and such a word behind it.
pub record Stride (t : List ℕ) (at end : ℕ) : Type 0 where
  pub space : space_at t at ≡ true
  pub word : PlainWord t (at + 1) end

-- Where something ends that was looked for: 0 says that it was not found.
abbrev pub Found : ℕ → Type 0 → Type 0
Found end X = (end ≡ 0 → ⊥) → X
