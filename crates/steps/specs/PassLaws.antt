-- The tokens that end a line, whatever its settings.
-- Assumes nothing.
use Rattle.std.specs.Prelude.{ℕ, ◌+◌, ◌≡◌, List}
use Rattle.std.proofs.Math.Path.{ap}
use Rattle.std.proofs.Common.{◌∙◌, add-zero}
use Rattle.basis.specs.Choice.{pick}
use Rattle.utf8.specs.Encoding.{bytes, size}
use Rattle.meaning.specs.Tokens.{newLine, carriageReturn, size_of}
use Rattle.meaning.specs.LineIter.{step}
use Rattle.meaning.specs.Line.{noted, measured}
use Rattle.meaning.specs.declared.tokens.TokenKind.TheVariants as kind
use Rattle.meaning.specs.declared.settings.Settings.{Settings}
use Rattle.meaning.specs.declared.cursor.Place.{Place}
use Rattle.meaning.specs.declared.line.LineEnd.TheVariants.{NewLine, CarriageReturn}
use Rattle.meaning.specs.declared.line.EventKind.TheVariants.{Space}
use Rattle.meaning.specs.declared.line.Measure.{Measure}
use Rattle.parser.specs.Lexing.{lexeme_at}
use Rattle.parser.specs.declared.lexeme.Lexeme.{Lexeme}
use Rattle.steps.specs.Stepping.{resumed_at, stepped_at, tok_of}
use Rattle.steps.specs.Ready.{Standing, step_from}
use Rattle.steps.specs.Stopping.{ends_before}
use Rattle.steps.specs.declared.step.Stepped.TheVariants.{Stop}

module _ (t : List ℕ) (at : ℕ) (x : Lexeme) where
  tok-line : x.kind ≡ kind.NewLine → tok_of t at x ≡ newLine
  unfolding tok_of
  tok-line k = rw k

  tok_return : x.kind ≡ kind.CarriageReturn → tok_of t at x ≡ carriageReturn
  unfolding tok_of
  tok_return k = rw k

-- Nothing is drawn that is measured.
same-measure : (m : Measure) → noted Space (m.pen.0 + 0) (m.spaces.0 + 0) m ≡ m
same-measure m = rw (add-zero m.pen.0, add-zero m.spaces.0)

module _ (s : Settings) (p : Place) (t : List ℕ) (at : ℕ) (x : Lexeme) (m : Measure) (h : Standing t at x) where
  pub line-ends : x.kind ≡ kind.NewLine → Stop (ends_before NewLine m x.end.0 0 0) ≡ step_from s p t at x m
  unfolding step_from step stepped_at ends_before resumed_at measured lexeme_at size_of size bytes pick
  line-ends k =
      let u = tok-line t at x k in
      let e : x.end.0 ≡ at + 1 = ap (λ (y : Lexeme). y.end.0) (h.is ∙ ap (lexeme_at at) u) in
      rw (u, e, same-measure m)

  pub line_returns : x.kind ≡ kind.CarriageReturn → Stop (ends_before CarriageReturn m x.end.0 0 0) ≡ step_from s p t at x m
  unfolding step_from step stepped_at ends_before resumed_at measured lexeme_at size_of size bytes pick
  line_returns k =
      let u = tok_return t at x k in
      let e : x.end.0 ≡ at + 1 = ap (λ (y : Lexeme). y.end.0) (h.is ∙ ap (lexeme_at at) u) in
      rw (u, e, same-measure m)
