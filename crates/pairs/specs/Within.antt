-- A word of few characters, as a scan gives it.
-- Assumes nothing.
use Rattle.std.specs.Prelude.{◌≡◌, List, ℕ, ◌≤◌, ltb, Option, Some, None}
use Rattle.basis.specs.Choice.{pick}
use Rattle.meaning.specs.Tokens.{tokens}
use Rattle.parser.specs.Lexing.{chars_from, lexed_at}
use Rattle.parser.specs.Scanning.{word_of, kept_of}
use Rattle.parser.specs.declared.lexeme.Lexeme.{Lexeme}
use Rattle.parser.specs.declared.scan.Scanned.{Scanned}

-- The word at a position, of no more characters than that.
pub record FirstWord (t : List ℕ) (at most : ℕ) (w : Scanned) : Type 0 where
  pub read : lexed_at at (tokens (chars_from t at)) ≡ Some (word_of w)
  pub fits : w.chars.0 ≤ most

-- A word that is known, if it has no more characters than that.
unfoldable pub kept_within : Lexeme → (most : ℕ) → Option Scanned
kept_within x most = pick (ltb most x.chars.0) None (Some (kept_of x))
