-- What the running steps say of a space run: one that fits, and one that is too wide for its line (rule 9).
-- Assumes nothing.
use Rattle.std.specs.Prelude.{ℕ, ◌+◌, ◌≤◌, ◌<◌, ◌≡◌, false, List, length, take, Option}
use Rattle.steps.specs.declared.foreseen.Look.{Look}
use Rattle.meaning.specs.Tokens.{tokens}
use Rattle.meaning.specs.Cursor.{fits_in}
use Rattle.meaning.specs.SpaceConfig.{spaces_width}
use Rattle.meaning.specs.LineIter.{draws_space, when, cut_run}
use Rattle.meaning.specs.Line.{noted}
use Rattle.meaning.specs.declared.tokens.TokenKind.TheVariants.{Whitespace}
use Rattle.meaning.specs.declared.settings.Settings.{Settings}
use Rattle.meaning.specs.declared.cursor.Place.{Place}
use Rattle.meaning.specs.declared.line.EventKind.TheVariants.{Space}
use Rattle.meaning.specs.declared.line.Measure.{Measure}
use Rattle.parser.specs.Lexing.{chars_from}
use Rattle.parser.specs.declared.lexeme.Lexeme.{Lexeme}
use Rattle.moves.specs.Fine.{FineSettings, FinePlace}
use Rattle.steps.specs.Stepping.{stepped_at, tok_of}
use Rattle.steps.specs.Ready.{Ready}
use Rattle.steps.specs.Foreseeing.{Foresees}
use Rattle.steps.specs.declared.step.Stepped.{Stepped}
use Rattle.steps.specs.declared.step.Stepped.TheVariants.{Go}

-- The characters of a token that stands at an offset.
abbrev pub chars_in : List ℕ → (at : ℕ) → Lexeme → List ℕ
chars_in t at x = take x.chars.0 (chars_from t at)

-- ---- a run that fits

-- It ends in the text, and what it measures stays small. The line stands at q after it, from where a look may be known.
pub record WholeRun (s : Settings) (q : Place) (t : List ℕ) (x : Lexeme) (width : ℕ) (m : Measure) (f : Option Look) : Type 0 where
  pub settings : FineSettings s
  pub place : FinePlace q
  pub short : length t ≤ 65535
  pub within : x.end.0 ≤ length t
  pub pen : m.pen.0 + width < 4294967296
  pub spaces : m.spaces.0 + x.count.0 < 4294967296
  pub sees : Foresees s.glyph.0 q.cursor q.spaces x.end.0 (tokens (chars_from t x.end.0)) f

unfoldable pub whole_answer : Settings → Place → List ℕ → Lexeme → (width : ℕ) → Measure → Stepped
whole_answer s q t x width m =
    let look = draws_space s q x.end.0 (tokens (chars_from t x.end.0)) in
    Go q (noted Space (m.pen.0 + when look.fits width) (m.spaces.0 + x.count.0) m) (record { 0 = look.reach })

-- ---- a run that is cut

-- What the spaces that fit measure, of which there may be none: they count, and have no width.
abbrev pub cut_shown : Measure → (fitting : ℕ) → Measure
cut_shown m fitting = noted Space (m.pen.0 + 0) (m.spaces.0 + fitting) m

-- It stands in the text, and its width does not fit.
pub record CutRun (s : Settings) (p : Place) (t : List ℕ) (at : ℕ) (x : Lexeme) (width : ℕ) (m : Measure) : Type 0 where
  pub ready : Ready s p t at x m
  pub kind : x.kind ≡ Whitespace
  pub wide : width ≡ spaces_width p.spaces x.count.0
  pub over : fits_in p.cursor width ≡ false

unfoldable pub cut_answer : Settings → Place → List ℕ → (at : ℕ) → Lexeme → (width : ℕ) → Measure → Stepped
cut_answer s p t at x width m = stepped_at m at (tok_of t at x) (cut_run p at (chars_in t at x) x.count.0 width)
