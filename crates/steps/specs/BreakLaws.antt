-- What the step of a soft hyphen answers, from what follows it (rule 8).
-- Assumes nothing.
use Rattle.std.specs.Prelude.{ℕ, ◌+◌, ◌≡◌, true, false, ◌||◌, not, List, None, Some}
use Rattle.std.proofs.Common.{ap, ◌∙◌}
use Rattle.basis.specs.Choice.{pick}
use Rattle.meaning.specs.Tokens.{softHyphen, size_of, tokens}
use Rattle.meaning.specs.Cursor.{fits_in}
use Rattle.meaning.specs.Lookahead.{next_width}
use Rattle.meaning.specs.LineIter.{hyphenated, on_break, step}
use Rattle.meaning.specs.Line.{measured}
use Rattle.meaning.specs.declared.tokens.TokenKind.TheVariants.{Break}
use Rattle.meaning.specs.declared.settings.Settings.{Settings}
use Rattle.meaning.specs.declared.cursor.Place.{Place}
use Rattle.meaning.specs.declared.line.Measure.{Measure}
use Rattle.meaning.specs.declared.counts.Pixels.{Pixels}
use Rattle.parser.specs.Lexing.{chars_from, lexeme_at}
use Rattle.parser.specs.declared.lexeme.Lexeme.{Lexeme}
use Rattle.steps.specs.Stepping.{ahead_of, stepped_at, tok_of}
use Rattle.steps.specs.Ready.{Standing, step_from}
use Rattle.steps.specs.declared.foreseen.WidthAhead.{WidthAhead}
use Rattle.steps.specs.declared.step.Stepped.TheVariants.{Go}

pub tok_break : (t : List ℕ) (at : ℕ) (x : Lexeme) → x.kind ≡ Break → tok_of t at x ≡ softHyphen
unfolding tok_of
tok_break t at x k = rw k

pub break_end : (t : List ℕ) (at : ℕ) (x : Lexeme) → Standing t at x → x.kind ≡ Break → x.end.0 ≡ at + 2
unfolding lexeme_at size_of
break_end t at x h k = ap (λ (y : Lexeme). y.end.0) (h.is ∙ ap (lexeme_at at) (tok_break t at x k))

module _ (s : Settings) (p : Place) (t : List ℕ) (at : ℕ) (x : Lexeme) (m : Measure) (h : Standing t at x) (k : x.kind ≡ Break)
    (a : WidthAhead) (ahead : a ≡ ahead_of (next_width s.glyph.0 None x.end.0 (tokens (chars_from t x.end.0))))
  where
    stepped : step_from s p t at x m ≡ stepped_at m at softHyphen (on_break s p at a.width a.reach.0)
    unfolding step_from step size_of
    stepped = rw (tok_break t at x k, ahead, break_end t at x h k)

    pub break_alone : a.width ≡ None → Go p m a.reach ≡ step_from s p t at x m
    unfolding on_break stepped_at measured
    break_alone e = rw (stepped, e)

    module _ (w : Pixels) (e : a.width ≡ Some w) where
      pub break_shows : p.empty || not (fits_in p.cursor w.0) ≡ true
          → stepped_at m at softHyphen (hyphenated s p at a.reach.0) ≡ step_from s p t at x m
      unfolding on_break pick
      break_shows f = rw (stepped, e, f)

      pub break_hides : p.empty || not (fits_in p.cursor w.0) ≡ false → Go p m a.reach ≡ step_from s p t at x m
      unfolding on_break stepped_at measured pick
      break_hides f = rw (stepped, e, f)
