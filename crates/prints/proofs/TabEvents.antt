-- The events of a tab, in each of its cases.
-- Assumes nothing.
use Prim.Native.Nat.{ℕ, ◌+◌}
use mathlib.Core.Path.{◌≡◌, ap}
use mathlib.Core.Bool.{true, false}
use mathlib.Core.List.{List, [], ◌∷◌}
use Rattle.basis.specs.Choice.{pick}
use Rattle.meaning.specs.Tokens.{tab, size_of, tokens}
use Rattle.meaning.specs.Cursor.{room_of, fits_in, tab_width}
use Rattle.meaning.specs.Words.{drawn}
use Rattle.meaning.specs.LineIter.{skips, draws_space, moved_on, on_tab, step}
use Rattle.meaning.specs.declared.tokens.TokenKind.TheVariants.{Tab}
use Rattle.meaning.specs.declared.settings.Settings.{Settings}
use Rattle.meaning.specs.declared.cursor.Place.{Place}
use Rattle.meaning.specs.declared.line.EventKind.{EventKind}
use Rattle.meaning.specs.declared.line.EventKind.TheVariants.{Space, Move}
use Rattle.parser.specs.Lexing.{chars_from, lexeme_at}
use Rattle.parser.specs.declared.lexeme.Lexeme.{Lexeme}
use Rattle.moves.specs.Fine.{FinePlace}
use Rattle.moves.specs.FineLaws.{advance_fine}
use Rattle.steps.specs.Stepping.{look_of, tok_of}
use Rattle.steps.specs.Ready.{Standing}
use Rattle.steps.specs.declared.foreseen.Look.{Look}
use Rattle.ink.specs.Sheet.{Sheet, drawn_on}
use Rattle.prints.specs.TokenDrawn.{drawn_of, tok_drawn}

-- The line stands in its box after a tab that fits.
pub tab-moved : (p q : Place) (width : ℕ) → FinePlace p → q ≡ moved_on p width → fits_in p.cursor width ≡ true → FinePlace q
tab-moved p q width h g f = rw g (advance_fine p.cursor width h.0 f, h.1)

module _ (sh : Sheet) (s : Settings) (p : Place) (t : List ℕ) (at : ℕ) (x : Lexeme) (st : Standing t at x) (k : x.kind ≡ Tab) where
  tab-tok : tok_of t at x ≡ tab
  unfolding tok_of
  tab-tok = rw k

  pub tab-end : x.end.0 ≡ at + 1
  unfolding lexeme_at size_of
  tab-end = ap (λ (y : Lexeme). y.end.0) (rw tab-tok at st.is)

  tab-drawn : tok_drawn s p t at x
      ≡ drawn_of (on_tab s p at (draws_space s (moved_on p (tab_width p.cursor)) x.end.0 (tokens (chars_from t x.end.0))))
  unfolding tok_drawn step size_of
  tab-drawn = rw (tab-tok, ← tab-end)

  pub tab-skips : skips s p ≡ true → sh ≡ drawn_on sh (tok_drawn s p t at x)
  unfolding on_tab pick drawn_on
  tab-skips e = rw (tab-drawn, e)

  module _ (width : ℕ) (w : width ≡ tab_width p.cursor) (e : skips s p ≡ false) where
    pub tab-fits : (q : Place) (l : Look) (kind : EventKind) → fits_in p.cursor width ≡ true → q ≡ moved_on p width
        → l ≡ look_of (draws_space s q x.end.0 (tokens (chars_from t x.end.0))) → kind ≡ pick l.fits Space Move
        → drawn_on sh (drawn kind at x.end.0 0 width ∷ []) ≡ drawn_on sh (tok_drawn s p t at x)
    unfolding on_tab pick
    tab-fits q l kind f g look is = rw (tab-drawn, e, ← w, f, is, look, g, tab-end)

    pub tab-beyond : (room : ℕ) → fits_in p.cursor width ≡ false → room ≡ room_of p.cursor
        → drawn_on sh (drawn Move at x.end.0 0 room ∷ []) ≡ drawn_on sh (tok_drawn s p t at x)
    unfolding on_tab pick
    tab-beyond room f r = rw (tab-drawn, e, ← w, f, r, tab-end)
