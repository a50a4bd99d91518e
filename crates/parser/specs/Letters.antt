-- The characters of a word as a scan meets them in a text, and what ends it.
-- Assumes nothing.
use Rattle.std.specs.Prelude.{◌≡◌, Bool, true, ◌&&◌, ◌||◌, List, ℕ, ◌+◌, ◌-◌, ◌≤◌, eqb, length}
use Rattle.utf8.specs.Decoding.{decode_at}
use Rattle.utf8.specs.declared.sequence.Decoded.TheVariants.{Char}
use Rattle.meaning.specs.Characters.{in_word}
use Rattle.parser.specs.Lexing.{chars_from}
use Rattle.parser.specs.Scanning.{glue_of, scanned_at, scan_from}

-- The bytes of U+2007 and of U+202F.
abbrev pub long_glue : ℕ → ℕ → ℕ → Bool
long_glue a b c = eqb a 0xE2 && eqb b 0x80 && (eqb c 0x87 || eqb c 0xAF)

-- A character of words stands at a position and has so many bytes; of the one character so many glue.
pub record Spells (t : List ℕ) (at n glues : ℕ) : Type 0 where
  pub char : ℕ
  pub is : decode_at t at ≡ Char char n
  pub word : in_word char ≡ true
  pub glue : glue_of char ≡ glues

-- It does not glue, and it does.
abbrev pub Letter : List ℕ → ℕ → ℕ → Type 0
Letter t at n = Spells t at n 0

abbrev pub Glues : List ℕ → ℕ → ℕ → Type 0
Glues t at n = Spells t at n 1

-- From one position to another a word goes on, by so many characters of which so many glue.
pub record GoesOn (t : List ℕ) (from to chars glues : ℕ) : Type 0 where
  pub forward : from + chars ≤ to
  pub inside : to ≤ length t
  pub fewer : glues ≤ chars
  pub scans : (n w : ℕ) → scan_from in_word glue_of from n w (chars_from t from) ≡ scan_from in_word glue_of to (n + chars) (w + glues) (chars_from t to)

-- The same by letters of one byte.
abbrev pub Lettered : List ℕ → ℕ → ℕ → Type 0
Lettered t from to = GoesOn t from to (to - from) 0

-- A word ends at a position, by a character of so many bytes or as if by one.
pub record Ends (t : List ℕ) (at n : ℕ) : Type 0 where
  pub few : n ≤ 4
  pub scans : (chars glues : ℕ) → scan_from in_word glue_of at chars glues (chars_from t at) ≡ scanned_at at chars glues n
