-- What the running step of a token takes for granted: the token stands in the text as its lexeme says, and no sum can wrap.
-- Assumes nothing.
use Rattle.std.specs.Prelude.{ℕ, ◌+◌, ◌*◌, ◌≤◌, ◌<◌, ◌≡◌, List, ◌++◌, length}
use Rattle.meaning.specs.Tokens.{tokens}
use Rattle.meaning.specs.LineIter.{step}
use Rattle.meaning.specs.declared.settings.Settings.{Settings}
use Rattle.meaning.specs.declared.cursor.Place.{Place}
use Rattle.meaning.specs.declared.line.Measure.{Measure}
use Rattle.laws.specs.Spell.{text_of, SoundTok}
use Rattle.parser.specs.Lexing.{chars_from, lexeme_at}
use Rattle.parser.specs.declared.lexeme.Lexeme.{Lexeme}
use Rattle.moves.specs.Fine.{FineSettings, FinePlace}
use Rattle.steps.specs.Stepping.{stepped_at, tok_of}
use Rattle.steps.specs.declared.step.Stepped.{Stepped}

-- A token of the text, or a resumed rest, as a lexeme says it.
pub record Standing (t : List ℕ) (at : ℕ) (x : Lexeme) : Type 0 where
  pub is : x ≡ lexeme_at at (tok_of t at x)
  pub text : text_of (tok_of t at x) ++ chars_from t x.end.0 ≡ chars_from t at
  pub sound : SoundTok (tok_of t at x) (chars_from t x.end.0)
  pub longer : at < x.end.0
  pub within : x.end.0 ≤ length t
  pub looks : x.reach.0 ≤ length t + 1

-- What was measured so far is no more than the bytes taken allow.
abbrev pub Small : (at : ℕ) → Measure → Type 0
Small at m =
    (m.pen.0 ≤ 8192 * at) × (m.spaces.0 ≤ at) × (m.width.0 ≤ m.pen.0) × (m.count.0 ≤ m.spaces.0)

pub record Ready (s : Settings) (p : Place) (t : List ℕ) (at : ℕ) (x : Lexeme) (m : Measure) : Type 0 where
  pub settings : FineSettings s
  pub place : FinePlace p
  pub short : length t ≤ 65535
  pub stands : Standing t at x
  pub small : Small at m

-- What a running step answers.
unfoldable pub step_from : Settings → Place → List ℕ → (at : ℕ) → Lexeme → Measure → Stepped
step_from s p t at x m = stepped_at m at (tok_of t at x) (step s p at (tok_of t at x) (tokens (chars_from t x.end.0)))
