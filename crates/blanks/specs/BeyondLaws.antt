-- A look from after white space that stands in a text, and what is known of it.
-- Assumes nothing.
use Rattle.std.specs.Prelude.{ℕ, ◌+◌, ◌≤◌, ◌≡◌, true, false, List, ◌∷◌, length, None, Option, Some}
use Rattle.std.proofs.Common.{arith, sym, ◌∙◌}
use Rattle.std.proofs.Math.Path.{refl, ap}
use Rattle.meaning.specs.Tokens.{Tok, tokens, size_of, kind_of, count_of}
use Rattle.meaning.specs.Cursor.{fits_in, advance}
use Rattle.meaning.specs.SpaceConfig.{spaces_after}
use Rattle.meaning.specs.Lookahead.{next_fits}
use Rattle.meaning.specs.LineIter.{skips}
use Rattle.meaning.specs.declared.tokens.TokenKind.{TokenKind}
use Rattle.meaning.specs.declared.tokens.TokenKind.TheVariants.{NewLine, CarriageReturn, Tab, Whitespace, Word, Break}
use Rattle.meaning.specs.declared.counts.Offset.{Offset}
use Rattle.meaning.specs.declared.line.Measure.{Measure}
use Rattle.meaning.specs.declared.settings.Settings.{Settings}
use Rattle.meaning.specs.declared.cursor.LineCursor.{LineCursor}
use Rattle.meaning.specs.declared.cursor.Spaces.{Spaces}
use Rattle.meaning.specs.declared.cursor.Place.{Place}
use Rattle.laws.specs.Spell.{SoundTok}
use Rattle.laws.specs.TokenLaws.{tokens_cover, tokens-sound, chars-size}
use Rattle.parser.specs.Lexing.{chars_from, lexeme_at}
use Rattle.parser.specs.declared.lexeme.Lexeme.{Lexeme}
use Rattle.moves.specs.FineLaws.{advance_fine, spaces_fine}
use Rattle.moves.specs.Fine.{FineCursor, FineSpaces}
use Rattle.steps.specs.Stepping.{look_of, tok_of}
use Rattle.steps.specs.Lexed.{counts-chars}
use Rattle.steps.specs.Ready.{Standing, Ready, step_from}
use Rattle.steps.specs.Ahead.{white_width}
use Rattle.steps.specs.Foreseeing.{White, Foresees, ForeseesAt, wide_at, Beyond, ForeseesAfter, LookReady}
use Rattle.steps.specs.declared.foreseen.Look.{Look}
use Rattle.steps.specs.declared.step.Stepped.TheVariants.{Go}
use Rattle.blanks.specs.LookLaws.{look_kept}
use Rattle.blanks.specs.TabLaws.{tab_foresees, tab-went}
use Rattle.steps.specs.RunLaws.{run_foresees, run-went}

-- What the token that stands at an offset says.
module _ {t : List ℕ} {at : ℕ} {x : Lexeme} (st : Standing t at x) where
  stands-kind : x.kind ≡ kind_of (tok_of t at x)
  unfolding lexeme_at
  stands-kind = ap (λ (y : Lexeme). y.kind) st.is

  stands-count : x.count.0 ≡ count_of (tok_of t at x)
  unfolding lexeme_at
  stands-count = ap (λ (y : Lexeme). y.count.0) st.is

  stands-end : x.end.0 ≡ at + size_of (tok_of t at x)
  unfolding lexeme_at
  stands-end = ap (λ (y : Lexeme). y.end.0) st.is

  pub stands-few : length t ≤ 65535 → x.count.0 ≤ 65535
  stands-few h =
      let u = tok_of t at x in
      omega (arith, stands-count, counts-chars u (chars_from t x.end.0) st.sound, chars-size u, stands-end, st.within)

-- The look from before the token u, and the one from after it.
kept : (g : ℕ) (c : LineCursor) (sp : Spaces) (t : List ℕ) (at : ℕ) (u : Tok) (n end : ℕ) → White (kind_of u) → SoundTok u (chars_from t end)
    → n ≡ count_of u → end ≡ at + size_of u → (w : ℕ) → w ≡ white_width (kind_of u) (count_of u) c sp → fits_in c w ≡ true
    → next_fits g c sp at (u ∷ tokens (chars_from t end)) ≡ next_fits g (advance c w) (spaces_after sp n) end (tokens (chars_from t end))
kept g c sp t at u n end e h q r w d f =
    let ts = tokens (chars_from t end) in
    look_kept g c sp at u ts e (rw tokens_cover h) (tokens-sound (chars_from t end)) w d f
    ∙ ap (λ (k : ℕ). next_fits g (advance c w) (spaces_after sp k) (at + size_of u) ts) (sym q)
    ∙ ap (λ (k : ℕ). next_fits g (advance c w) (spaces_after sp n) k ts) (sym r)

-- White space that fits, on a line that is not empty.
module _ {s : Settings} {p : Place} {t : List ℕ} {at : ℕ} {x : Lexeme} {f : Option Look} (h : LookReady s p t at x f)
    (white : White x.kind) (shown : p.empty ≡ false) (w : ℕ) (wide : w ≡ wide_at p x) (fits : fits_in p.cursor w ≡ true)
  where
    beyond : (l : Look)
        → l ≡ look_of (next_fits s.glyph.0 (advance p.cursor w) (spaces_after p.spaces x.count.0) x.end.0 (tokens (chars_from t x.end.0)))
        → Beyond s p t x (Some l)
    beyond l e = record { white = white; shown = shown; fits = rw (← wide) fits; sees = rw (← wide) e }

    -- What was seen from before it is seen from after it.
    pub beyond-kept : (l : Look) → f ≡ Some l → Beyond s p t x (Some l)
    beyond-kept l e =
        let st = h.stands in
        let g = s.glyph.0 in
        let seen : ForeseesAt s p t at x (Some l) = rw e at h.sees in
        let k : White (kind_of (tok_of t at x)) = rw (← (stands-kind st)) white in
        let v : w ≡ white_width (kind_of (tok_of t at x)) (count_of (tok_of t at x)) p.cursor p.spaces = rw (← (stands-kind st), ← (stands-count st)) wide in
        beyond l (seen ∙ ap look_of (kept g p.cursor p.spaces t at (tok_of t at x) x.count.0 x.end.0 k st.sound (stands-count st) (stands-end st) w v fits))

    -- It is looked from after it.
    pub beyond-looked : (c : LineCursor) (sp : Spaces) (l : Look) → c ≡ advance p.cursor w → sp ≡ spaces_after p.spaces x.count.0
        → l ≡ look_of (next_fits s.glyph.0 c sp x.end.0 (tokens (chars_from t x.end.0))) → Beyond s p t x (Some l)
    beyond-looked c sp l a b e = beyond l (rw (a, b) at e)

    pub beyond_fine : (c : LineCursor) (sp : Spaces) → c ≡ advance p.cursor w → sp ≡ spaces_after p.spaces x.count.0 → FineCursor c × FineSpaces sp
    beyond_fine c sp a b = (rw a (advance_fine p.cursor w h.place.0 fits), rw b (spaces_fine p.spaces x.count.0 h.place.1))

-- ---- where white space leads that was looked beyond

stays : (s : Settings) (p : Place) → p.empty ≡ false → skips s p ≡ false
unfolding skips
stays s p e = rw e

module _ {s : Settings} {p : Place} {t : List ℕ} {at : ℕ} {x : Lexeme} {m : Measure} (h : Ready s p t at x m) (q : Place) (n : Measure) (o : Offset)
    (is : step_from s p t at x m ≡ Go q n o)
  where
    white-leads : (k : TokenKind) → x.kind ≡ k → (l : Look) → Beyond s p t x (Some l) → White k
        → Foresees s.glyph.0 q.cursor q.spaces x.end.0 (tokens (chars_from t x.end.0)) (Some l)
    unfolding white_width
    white-leads Tab k l b w =
        tab_foresees s p h.stands k (Some l) b _ refl q (tab-went h k (stays s p b.shown) (rw k at b.fits) q n o is)
    white-leads Whitespace k l b w =
        rw (run-went h k (stays s p b.shown) (rw k at b.fits) q n o is) (run_foresees h k (Some l) b _ refl)
    white-leads NewLine k l b w = absurd w
    white-leads CarriageReturn k l b w = absurd w
    white-leads Word k l b w = absurd w
    white-leads Break k l b w = absurd w

    -- What is known of the look from after a token is known from where its step leads.
    pub step_foresees : (f : Option Look) → ForeseesAfter s p t x f
        → Foresees s.glyph.0 q.cursor q.spaces x.end.0 (tokens (chars_from t x.end.0)) f
    step_foresees None b = tt
    step_foresees (Some l) b = white-leads x.kind refl l b b.white
