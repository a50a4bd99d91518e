-- A tab, in each of its cases.
-- Assumes nothing.
use Rattle.std.specs.Prelude.{ℕ, ◌+◌, ◌≡◌, refl, Bool, true, false, List, None, Option, Some}
use Rattle.std.proofs.Common.{sym}
use Rattle.std.proofs.Math.Path.{ap}
use Rattle.basis.specs.Choice.{pick}
use Rattle.meaning.specs.Tokens.{tab, size_of, tokens}
use Rattle.meaning.specs.Cursor.{room_of, fits_in, advance, tab_width}
use Rattle.meaning.specs.LineIter.{skips, draws_space, moved_on, on_tab, step}
use Rattle.meaning.specs.Line.{noted, measured}
use Rattle.meaning.specs.declared.tokens.TokenKind.TheVariants.{Tab}
use Rattle.meaning.specs.declared.settings.Settings.{Settings}
use Rattle.meaning.specs.declared.counts.Offset.{Offset}
use Rattle.meaning.specs.declared.cursor.Place.{Place}
use Rattle.meaning.specs.declared.line.EventKind.TheVariants.{Space, Move}
use Rattle.meaning.specs.declared.line.Measure.{Measure}
use Rattle.parser.specs.Lexing.{chars_from, lexeme_at}
use Rattle.parser.specs.declared.lexeme.Lexeme.{Lexeme}
use Rattle.moves.specs.FineLaws.{advance_fine}
use Rattle.moves.specs.Fine.{FinePlace}
use Rattle.steps.specs.Stepping.{look_of, stepped_at, tok_of}
use Rattle.steps.specs.Ready.{Standing, Ready, step_from}
use Rattle.steps.specs.Ahead.{white_width}
use Rattle.steps.specs.Foreseeing.{Foresees, ForeseesAfter}
use Rattle.steps.specs.declared.foreseen.Look.{Look}
use Rattle.steps.specs.declared.step.Stepped.TheVariants.{Go}
use Rattle.steps.specs.FitsLaws.{none_used}

-- Drawn or not, it measures the same.
drawn_or_not : (b : Bool) (pen spaces : ℕ) (m : Measure) → noted (pick b Space Move) pen spaces m ≡ noted Space pen spaces m
unfolding pick
drawn_or_not true pen spaces m = refl
drawn_or_not false pen spaces m = refl

-- ---- a tab in the text

module _ (t : List ℕ) (at : ℕ) (x : Lexeme) (k : x.kind ≡ Tab) (st : Standing t at x) where
  tab-tok : tok_of t at x ≡ tab
  unfolding tok_of
  tab-tok = rw k

  tab-end : x.end.0 ≡ at + 1
  unfolding lexeme_at size_of
  tab-end = ap (λ (y : Lexeme). y.end.0) (rw tab-tok at st.is)

  tab-count : x.count.0 ≡ 0
  unfolding lexeme_at
  tab-count = ap (λ (y : Lexeme). y.count.0) (rw tab-tok at st.is)

-- What is known of the look from after a tab is what is known from where the line stands then.
module _ (s : Settings) (p : Place) {t : List ℕ} {at : ℕ} {x : Lexeme} (st : Standing t at x) (k : x.kind ≡ Tab) where
  tab-sees : (f : Option Look) → ForeseesAfter s p t x f
      → Foresees s.glyph.0 (advance p.cursor (tab_width p.cursor)) p.spaces x.end.0 (tokens (chars_from t x.end.0)) f
  unfolding white_width
  tab-sees None b = tt
  tab-sees (Some l) b = rw (k, tab-count t at x k st, none_used p.spaces) at b.sees

  pub tab_foresees : (f : Option Look) → ForeseesAfter s p t x f → (width : ℕ) → width ≡ tab_width p.cursor → (q : Place) → q ≡ moved_on p width
      → Foresees s.glyph.0 q.cursor q.spaces x.end.0 (tokens (chars_from t x.end.0)) f
  tab_foresees f b width w q e = rw (e, w) (tab-sees f b)

-- ---- the cases

module _ {s : Settings} {p : Place} {t : List ℕ} {at : ℕ} {x : Lexeme} {m : Measure} (h : Ready s p t at x m) (k : x.kind ≡ Tab) where
  tab-step : step_from s p t at x m
      ≡ stepped_at m at tab (on_tab s p at (draws_space s (moved_on p (tab_width p.cursor)) x.end.0 (tokens (chars_from t x.end.0))))
  unfolding step_from step size_of
  tab-step = rw (tab-tok t at x k h.stands, ← (tab-end t at x k h.stands))

  pub tab-skipped : skips s p ≡ true → Go p m (record { 0 = 0 }) ≡ step_from s p t at x m
  unfolding on_tab pick stepped_at measured
  tab-skipped e = rw (tab-step, e)

  module _ (width : ℕ) (w : width ≡ tab_width p.cursor) (e : skips s p ≡ false) where
    pub tab-fits : (q : Place) (n : Measure) (l : Look) → fits_in p.cursor width ≡ true → q ≡ moved_on p width
        → l ≡ look_of (draws_space s q x.end.0 (tokens (chars_from t x.end.0)))
        → n ≡ noted Space (m.pen.0 + width) (m.spaces.0 + 0) m → Go q n l.reach ≡ step_from s p t at x m
    unfolding on_tab pick stepped_at measured
    tab-fits q n l f g look o =
        let d = draws_space s (moved_on p width) x.end.0 (tokens (chars_from t x.end.0)) in
        rw (tab-step, e, ← w, f, look, g, o)
        (ap (λ (v : Measure). Go (moved_on p width) v (record { 0 = d.reach })) (sym (drawn_or_not d.fits (m.pen.0 + width) (m.spaces.0 + 0) m)))

    pub tab-beyond : (room : ℕ) (q : Place) (n : Measure) → fits_in p.cursor width ≡ false → room ≡ room_of p.cursor → q ≡ moved_on p room
        → n ≡ noted Space (m.pen.0 + room) (m.spaces.0 + 0) m → Go q n (record { 0 = 0 }) ≡ step_from s p t at x m
    unfolding on_tab pick stepped_at measured
    tab-beyond room q n f r g o = rw (tab-step, e, ← w, f, g, o, r)

  -- Where a tab that fits leads.
  pub tab-went : skips s p ≡ false → fits_in p.cursor (tab_width p.cursor) ≡ true → (q : Place) (n : Measure) (o : Offset)
      → step_from s p t at x m ≡ Go q n o → q ≡ moved_on p (tab_width p.cursor)
  unfolding on_tab pick stepped_at
  tab-went e f q n o g = let r = rw (tab-step, e, f) at g in cc

  -- The line stands in its box after a tab that fits.
  pub tab-moved : (q : Place) (width : ℕ) → q ≡ moved_on p width → fits_in p.cursor width ≡ true → FinePlace q
  tab-moved q width g f = rw g (advance_fine p.cursor width h.place.0 f, h.place.1)
