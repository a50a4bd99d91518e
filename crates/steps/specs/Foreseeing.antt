-- A look ahead that is kept while white space is taken: what it saw is what the next look would see.
-- Assumes nothing.
use Rattle.std.specs.Prelude.{ℕ, ◌≤◌, ◌≡◌, true, false, List, ◌∷◌, length, None, Option, Some}
use Rattle.steps.specs.declared.foreseen.Look.{Look}
use Rattle.meaning.specs.Tokens.{Tok, tokens}
use Rattle.meaning.specs.Cursor.{fits_in, advance}
use Rattle.meaning.specs.SpaceConfig.{spaces_after}
use Rattle.meaning.specs.Lookahead.{next_fits}
use Rattle.meaning.specs.Line.{held_tokens}
use Rattle.meaning.specs.declared.tokens.TokenKind.{TokenKind}
use Rattle.meaning.specs.declared.tokens.TokenKind.TheVariants.{NewLine, CarriageReturn, Tab, Whitespace, Word, Break}
use Rattle.meaning.specs.declared.settings.Settings.{Settings}
use Rattle.meaning.specs.declared.cursor.LineCursor.{LineCursor}
use Rattle.meaning.specs.declared.cursor.Spaces.{Spaces}
use Rattle.meaning.specs.declared.cursor.Place.{Place}
use Rattle.parser.specs.Lexing.{chars_from}
use Rattle.parser.specs.declared.lexeme.Lexeme.{Lexeme}
use Rattle.steps.specs.Ahead.{white_width}
use Rattle.moves.specs.Fine.{FineSettings, FinePlace}
use Rattle.steps.specs.Stepping.{look_of, tok_of}
use Rattle.steps.specs.Ready.{Standing}
use Rattle.steps.specs.declared.step.Resumed.{Resumed}

-- White space, which a look goes over where it fits.
abbrev pub White : TokenKind → Type 0
White NewLine = ⊥
White CarriageReturn = ⊥
White Tab = Unit {0}
White Whitespace = Unit {0}
White Word = ⊥
White Break = ⊥

-- What is known of the look at the tokens ts from an offset on is true.
abbrev pub Foresees : (glyph : ℕ) → LineCursor → Spaces → (at : ℕ) → List Tok → Option Look → Type 0
Foresees g c sp at ts None = Unit {0}
Foresees g c sp at ts (Some l) = l ≡ look_of (next_fits g c sp at ts)

-- The look at the token x and what follows it.
abbrev pub ForeseesAt : Settings → Place → List ℕ → (at : ℕ) → Lexeme → Option Look → Type 0
ForeseesAt s p t at x f = Foresees s.glyph.0 p.cursor p.spaces at (tok_of t at x ∷ tokens (chars_from t x.end.0)) f

-- The look at what a pass finds at an offset, after a resumed rest.
abbrev pub ForeseesFrom : Settings → Place → List ℕ → (at : ℕ) → Resumed → Option Look → Type 0
ForeseesFrom s p t at r f = Foresees s.glyph.0 p.cursor p.spaces at (held_tokens r.chars.0 r.count.0 (chars_from t at)) f

-- The width of white space x from a place on.
abbrev pub wide_at : Place → Lexeme → ℕ
wide_at p x = white_width x.kind x.count.0 p.cursor p.spaces

-- White space that fits on a line which is not empty, and the look from after it.
pub record Beyond (s : Settings) (p : Place) (t : List ℕ) (x : Lexeme) (f : Option Look) : Type 0 where
  pub white : White x.kind
  pub shown : p.empty ≡ false
  pub fits : fits_in p.cursor (wide_at p x) ≡ true
  pub sees :
      Foresees s.glyph.0 (advance p.cursor (wide_at p x)) (spaces_after p.spaces x.count.0) x.end.0
      (tokens (chars_from t x.end.0)) f

abbrev pub ForeseesAfter : Settings → Place → List ℕ → Lexeme → Option Look → Type 0
ForeseesAfter s p t x None = Unit {0}
ForeseesAfter s p t x (Some l) = Beyond s p t x (Some l)

-- What looking beyond a token takes for granted.
pub record LookReady (s : Settings) (p : Place) (t : List ℕ) (at : ℕ) (x : Lexeme) (f : Option Look) : Type 0 where
  pub settings : FineSettings s
  pub place : FinePlace p
  pub short : length t ≤ 65535
  pub stands : Standing t at x
  pub sees : ForeseesAt s p t at x f
