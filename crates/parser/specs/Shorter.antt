-- A word without its first character, and without its first characters.
-- Assumes nothing.
use Rattle.std.specs.Prelude.{◌≡◌, List, ℕ, ◌+◌, ◌-◌, ◌≤◌, length, take}
use Rattle.utf8.specs.Encoding.{size}
use Rattle.parser.specs.Lexing.{chars_from}
use Rattle.parser.specs.declared.lexeme.Lexeme.{Lexeme}

-- That character is one of those that glue, or none.
unfoldable pub shorter : Lexeme → (glue : ℕ) → Lexeme
shorter x g =
    record {
      kind = x.kind;
      end = x.end;
      chars = record { 0 = x.chars.0 - 1 };
      count = x.count;
      glues = record { 0 = x.glues.0 - g };
      reach = x.reach;
    }

-- So many characters, of which so many glue.
unfoldable pub less : Lexeme → (chars glues : ℕ) → Lexeme
less x n g =
    record {
      kind = x.kind;
      end = x.end;
      chars = record { 0 = x.chars.0 - n };
      count = x.count;
      glues = record { 0 = x.glues.0 - g };
      reach = x.reach;
    }

-- From one offset of a text up to another stand so many characters.
pub record Between (t : List ℕ) (from at chars : ℕ) : Type 0 where
  pub all : chars ≤ length (chars_from t from)
  pub ends : at ≡ from + size (take chars (chars_from t from))
