-- Whether white space is drawn, and a space run that fits.
-- Assumes nothing.
use Rattle.std.specs.Prelude.{ℕ, ◌+◌, ◌≡◌, true, false, List, Option, Some}
use Rattle.std.proofs.Math.Path.{sym}
use Rattle.std.proofs.Common.{ap, ◌∙◌}
use Rattle.basis.specs.Choice.{pick}
use Rattle.meaning.specs.Tokens.{Tok, tokens}
use Rattle.meaning.specs.Lookahead.{next_fits}
use Rattle.meaning.specs.LineIter.{draws_space, when}
use Rattle.meaning.specs.Line.{noted}
use Rattle.meaning.specs.declared.settings.Settings.{Settings}
use Rattle.meaning.specs.declared.cursor.Place.{Place}
use Rattle.meaning.specs.declared.line.EventKind.TheVariants.{Space}
use Rattle.meaning.specs.declared.line.Measure.{Measure}
use Rattle.parser.specs.Lexing.{chars_from}
use Rattle.parser.specs.declared.lexeme.Lexeme.{Lexeme}
use Rattle.steps.specs.Ahead.{look_at}
use Rattle.steps.specs.Stepping.{look_of}
use Rattle.steps.specs.Runs.{whole_answer}
use Rattle.steps.specs.Foreseeing.{Foresees}
use Rattle.steps.specs.declared.foreseen.Look.{Look}
use Rattle.steps.specs.declared.step.Stepped.TheVariants.{Go}

module _ (s : Settings) (q : Place) (at : ℕ) (ts : List Tok) where
  pub draws-front : q.empty ≡ true → look_at true 0 ≡ look_of (draws_space s q at ts)
  unfolding draws_space pick
  draws-front e = rw e

  pub draws-some : (l : Look) → q.empty ≡ false → l ≡ look_of (next_fits s.glyph.0 q.cursor q.spaces at ts)
      → l ≡ look_of (draws_space s q at ts)
  unfolding draws_space pick
  draws-some l e g = rw e g

  -- The look is known.
  pub draws-known : (f : Option Look) (l : Look) → q.empty ≡ false → Foresees s.glyph.0 q.cursor q.spaces at ts f
      → f ≡ Some l → l ≡ look_of (draws_space s q at ts)
  draws-known f l e h k = draws-some l e (rw k at h)

module _ (s : Settings) (q : Place) (t : List ℕ) (x : Lexeme) (width : ℕ) (m : Measure) (l : Look)
    (is : l ≡ look_of (draws_space s q x.end.0 (tokens (chars_from t x.end.0))))
  where
    pub whole-drawn : (n : Measure) → n ≡ noted Space (m.pen.0 + width) (m.spaces.0 + x.count.0) m → l.fits ≡ true
        → Go q n l.reach ≡ whole_answer s q t x width m
    unfolding whole_answer when pick
    whole-drawn n g e = rw (g, sym (ap (λ (k : Look). k.fits) is) ∙ e, is)

    pub whole-hidden : (n : Measure) → n ≡ noted Space (m.pen.0 + 0) (m.spaces.0 + x.count.0) m → l.fits ≡ false
        → Go q n l.reach ≡ whole_answer s q t x width m
    unfolding whole_answer when pick
    whole-hidden n g e = rw (g, sym (ap (λ (k : Look). k.fits) is) ∙ e, is)
