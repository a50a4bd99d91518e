-- The next of some plain words with one space between any two.
-- Assumes nothing.
use Rattle.std.specs.Prelude.{◌≡◌, true, List, ℕ, ◌≤◌}
use Rattle.parser.specs.Ascii.{space_at}
use Rattle.pairs.specs.PlainWords.{PlainWord}
use Rattle.pairs.specs.Stretches.{Stretched}

-- Plain words with one space between any two stand from a position on, up to some space.
pub record Stretching (t : List ℕ) (from : ℕ) : Type 0 where
  pub end : ℕ
  pub words : Stretched t from end

-- The first of them, up to the space behind it.
pub record NextPlain (t : List ℕ) (from to : ℕ) : Type 0 where
  pub word : PlainWord t from to
  pub space : space_at t to ≡ true
  pub nearest : (end : ℕ) → Stretched t from end → to ≤ end
