-- How a pass goes on from a token that is drawn: from a place, or it ends (rule 8).
-- Assumes nothing.
use Rattle.std.specs.Prelude.{ℕ, ◌≡◌, List, None, Option, Some}
use Rattle.meaning.specs.Line.{unmeasured}
use Rattle.meaning.specs.declared.settings.Settings.{Settings}
use Rattle.meaning.specs.declared.cursor.Place.{Place}
use Rattle.meaning.specs.declared.counts.Offset.{Offset}
use Rattle.meaning.specs.declared.line.Measure.{Measure}
use Rattle.parser.specs.declared.lexeme.Lexeme.{Lexeme}
use Rattle.steps.specs.Ready.{step_from}
use Rattle.steps.specs.declared.step.Ended.{Ended}
use Rattle.steps.specs.declared.step.Stepped.TheVariants.{Go, Stop}

pub record Goes (s : Settings) (p : Place) (t : List ℕ) (at : ℕ) (x : Lexeme) (q : Place) : Type 0 where
  pub measure : Measure
  pub reach : Offset
  pub is : step_from s p t at x unmeasured ≡ Go q measure reach

pub record Stops (s : Settings) (p : Place) (t : List ℕ) (at : ℕ) (x : Lexeme) : Type 0 where
  pub end : Ended
  pub is : step_from s p t at x unmeasured ≡ Stop end

-- From which place it goes on, or that it ends.
abbrev pub Went : Settings → Place → List ℕ → (at : ℕ) → Lexeme → Option Place → Type 0
Went s p t at x (Some q) = Goes s p t at x q
Went s p t at x None = Stops s p t at x
