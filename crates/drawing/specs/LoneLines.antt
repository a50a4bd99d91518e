-- A line that is a "-" alone (rule 8).
-- Assumes nothing.
use Rattle.std.specs.Prelude.{ℕ, ◌≡◌, List}
use Rattle.meaning.specs.declared.settings.Settings.{Settings}
use Rattle.meaning.specs.declared.cursor.Place.{Place}
use Rattle.parser.specs.declared.lexeme.Lexeme.{Lexeme}
use Rattle.steps.specs.declared.step.Resumed.{Resumed}
use Rattle.strides.specs.LoneHyphens.{Lone}

-- It resumes nothing, and a word follows that does not fit.
pub record LoneLine (s : Settings) (p : Place) (t : List ℕ) (at : ℕ) (r : Resumed) : Type 0 where
  pub none : r.chars.0 ≡ 0
  pub word : Lexeme
  pub lone : Lone s p t at word
