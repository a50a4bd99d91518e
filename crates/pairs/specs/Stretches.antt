-- Lines of plain words with one space between any two, as their bytes tell them.
-- Assumes nothing.
use Rattle.std.specs.Prelude.{◌≡◌, Bool, true, ◌&&◌, ◌||◌, not, List, ℕ, ◌+◌, ◌-◌, ◌≤◌, ◌<◌, ltb, leb, eqb, get_or}
use Rattle.parser.specs.Ascii.{plain, plain_at, space_at}
use Rattle.pairs.specs.PlainWords.{PlainWord}

-- A byte of a word or a space, and no space behind a space.
abbrev pub smooth : (before b : ℕ) → Bool
smooth before b = leb 0x20 b && ltb b 0x80 && (not (eqb before 0x20) || not (eqb b 0x20))

-- Every byte from one position up to another is so, behind the byte before it.
abbrev pub Smooth : List ℕ → (from to : ℕ) → Type 0
Smooth t from to = (i : ℕ) → from ≤ i → i < to → smooth (get_or t (i - 1) 0) (get_or t i 0) ≡ true

-- Every byte from one position up to another is of a word.
abbrev pub Plains : List ℕ → (from to : ℕ) → Type 0
Plains t from to = (i : ℕ) → from ≤ i → i < to → plain (get_or t i 0) ≡ true

-- No byte behind one position is a space, up to another that counts too.
abbrev pub Unspaced : List ℕ → (at limit : ℕ) → Type 0
Unspaced t at limit = (i : ℕ) → at < i → i ≤ limit → get_or t i 0 ≡ 0x20 → ⊥

-- The last space up to a limit, or the position from which on it was looked for.
pub record LastSpace (t : List ℕ) (from limit at : ℕ) : Type 0 where
  pub low : from ≤ at
  pub high : at ≤ limit
  pub found : from < at → space_at t at ≡ true
  pub none : Unspaced t at limit

-- Plain words with one space between any two stand from a position up to a space at another.
pub record Stretched (t : List ℕ) (at end : ℕ) : Type 0 where
  pub forward : at < end
  pub first : plain_at t at ≡ true
  pub smooth : Smooth t (at + 1) (end + 1)
  pub space : space_at t end ≡ true

-- Behind such a space stands a plain word that ends past a limit.
pub record Farther (t : List ℕ) (end limit reach : ℕ) : Type 0 where
  pub far : ℕ
  pub word : PlainWord t (end + 1) far
  pub over : limit < far
  pub is : reach ≡ far + 1

-- A word waits behind such a space, which stands at a limit or before it. Where it stands at the limit nothing but the word's first letter
-- is looked at.
pub record Waits (t : List ℕ) (end limit reach : ℕ) : Type 0 where
  pub full : end ≡ limit → (plain_at t (end + 1) ≡ true) × (reach ≡ end + 2)
  pub longer : end < limit → Farther t end limit reach

-- Of such words those up to `end` fit a line of so many characters, and a word waits behind them. Where they fill the line nothing but
-- its first letter is looked at.
pub record PlainLine (t : List ℕ) (at most end reach : ℕ) : Type 0 where
  pub words : Stretched t at end
  pub few : end ≤ at + most
  pub full : end ≡ at + most → (plain_at t (end + 1) ≡ true) × (reach ≡ end + 2)
  pub longer : end < at + most → Farther t end (at + most) reach
