-- The first part of a word that is too wide for a line, drawn with plain spaces.
-- Assumes nothing.
use Rattle.std.specs.Prelude.{ℕ, ◌-◌, ◌/◌, ◌≤◌, ◌<◌, ◌≡◌, List, length, Some}
use Rattle.meaning.specs.Tokens.{tokens}
use Rattle.meaning.specs.declared.tokens.TokenKind.TheVariants.{Word}
use Rattle.meaning.specs.declared.settings.Settings.{Settings}
use Rattle.parser.specs.Lexing.{chars_from, lexed_at}
use Rattle.parser.specs.Shorter.{Between}
use Rattle.parser.specs.declared.lexeme.Lexeme.{Lexeme}

-- A word stands at an offset and has more characters than fit from the line's left on; so many fit, and end at another offset. Of the whole word
-- no more characters glue than that.
pub record CutToDraw (s : Settings) (t : List ℕ) (at next most gluing left : ℕ) : Type 0 where
  pub lexeme : Lexeme
  pub read : lexed_at at (tokens (chars_from t at)) ≡ Some lexeme
  pub word : lexeme.kind ≡ Word
  pub long : most < lexeme.chars.0
  pub some : 1 ≤ most
  pub fitting : most ≡ (s.width.0 - left) / s.glyph.0
  pub ends : Between t at next most
  pub inside : next ≤ length t
  pub few : lexeme.glues.0 ≤ gluing
