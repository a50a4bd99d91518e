-- What a pass draws of words that it takes at once, each behind one space, and of one that waits.
-- Assumes nothing.
use Prim.Native.Nat.{ℕ, ◌+◌, ◌-◌, ◌*◌, ◌/◌, ◌≤◌, ◌<◌}
use Rattle.std.specs.Prelude.{Some}
use mathlib.Core.Path.{◌≡◌, refl, sym, ap, subst, ◌∙◌}
use mathlib.Core.Bool.{true, false}
use mathlib.Core.List.{List, [], ◌∷◌, ◌++◌}
use native.Mathlib.Nat.{div-one, div-lt_iff_lt-mul}
use native.Mathlib.Omega.{arith}
use borrow.Author.Tests.{leb-false, eq-eqb}
use lib.ListN.{length}
use Rattle.basis.specs.Choice.{pick}
use Rattle.meaning.specs.Cursor.{room_of, fits_in}
use Rattle.meaning.specs.SpaceConfig.{spaces_width}
use Rattle.meaning.specs.Tokens.{tokens}
use Rattle.meaning.specs.Words.{Drawn, drawn, drawn_word}
use Rattle.meaning.specs.LineIter.{used_up, cut_run, on_space, on_word, step}
use Rattle.meaning.specs.Line.{noted}
use Rattle.meaning.specs.declared.settings.Settings.{Settings}
use Rattle.meaning.specs.declared.counts.Offset.{Offset}
use Rattle.meaning.specs.declared.tokens.TokenKind.TheVariants.{Word}
use Rattle.meaning.specs.declared.cursor.Spaces.{Spaces}
use Rattle.meaning.specs.declared.cursor.Place.{Place}
use Rattle.meaning.specs.declared.line.EventKind.TheVariants.{Space, Printed}
use Rattle.meaning.specs.declared.line.Measure.{Measure}
use Rattle.parser.specs.Lexing.{chars_from, lexed_at}
use Rattle.pairs.specs.Pairs.{one_space, PairAt}
use Rattle.parser.specs.declared.lexeme.Lexeme.{Lexeme}
use Rattle.steps.specs.Ahead.{look_at}
use Rattle.steps.specs.Stepping.{stepped_at}
use Rattle.steps.specs.Unrolled.{nothing_resumed}
use Rattle.steps.specs.Ready.{Ready, step_from}
use Rattle.steps.specs.Runs.{whole_answer, cut_answer}
use Rattle.steps.specs.Running.{PassReady}
use Rattle.steps.specs.Stopping.{word_place}
use Rattle.strides.specs.Strides.{Waits}
use Rattle.steps.specs.declared.foreseen.Look.{Look}
use Rattle.strides.specs.declared.going.Waiting.{Waiting}
use Rattle.steps.specs.declared.step.Stepped.TheVariants.{Go}
use Rattle.steps.specs.DrawLaws.{whole-drawn, whole-hidden}
use Rattle.steps.specs.RunLaws.{run-tok, space-whole, space-cut}
use Rattle.steps.specs.WordLaws as rendered
use Rattle.steps.specs.WordLaws.{word_at, WordAt, word-at, word-goes}
use Rattle.strides.specs.OnwardLaws.{read-pending, read-ready}
use Rattle.strides.specs.StrideLaws.{stays, behind, looks-word, space-goes}
use Rattle.strides.specs.WaitLaws.{over-full}
use Rattle.drawing.specs.Drawn.{drawn_from}
use Rattle.ink.specs.Sheet.{widths}
use Rattle.prints.specs.TokenDrawn.{tok_drawn, grown_by, run_drawn}
use Rattle.drawing.specs.PassDrawn.{go-drawn, stop-drawn}
use Rattle.drawing.specs.DrawnBounds.{tok-few}
use Rattle.prints.specs.TokenEvents.{run-drawn, tok-narrow}
use Rattle.prints.specs.PrintEvents.{one_print}

-- ---- a word

module _ (s : Settings) (p : Place) (t : List ℕ) (at : ℕ) (x : Lexeme) (w : WordAt t at x) where
  word_fits : fits_in p.cursor (x.chars.0 * s.glyph.0) ≡ true → tok_drawn s p t at x ≡ drawn_word s.glyph.0 p.spaces at (word_at t at x)
  unfolding tok_drawn step on_word pick
  word_fits e = rw (w.tok, ← w.chars, e)

  word-waits : fits_in p.cursor (x.chars.0 * s.glyph.0) ≡ false → p.empty ≡ false → tok_drawn s p t at x ≡ []
  unfolding tok_drawn step on_word pick
  word-waits e f = rw (w.tok, ← w.chars, e, f)

-- Nothing in it glues.
pub one_word : (t : List ℕ) (at : ℕ) (x : Lexeme) → WordAt t at x → (g : ℕ) (sp : Spaces) → x.glues.0 ≡ 0
    → drawn_word g sp at (word_at t at x) ≡ drawn Printed at x.end.0 0 (x.chars.0 * g) ∷ []
one_word t at x w g sp e = one_print g sp at (word_at t at x) (sym w.glues ∙ e) ∙ rw (← w.end, ← w.chars)

module _ {s : Settings} {p : Place} {t : List ℕ} {at : ℕ} {m : Measure} (r : PassReady s p t at nothing_resumed m)
    (x : Lexeme) (d : lexed_at at (tokens (chars_from t at)) ≡ Some x) (k : x.kind ≡ Word)
  where
    abbrev pub here : WordAt t at x
    here = word-at t at x (read-pending t at x d).stands k

    -- What is drawn of it, no more things than it has bytes, and no wider than they allow.
    pub word_first : fits_in p.cursor (x.chars.0 * s.glyph.0) ≡ true →
        let ds = drawn_word s.glyph.0 p.spaces at (word_at t at x) in
        (drawn_from s p t at 0 0 ≡ ds ++ drawn_from s (word_place s.glyph.0 p x.chars.0 x.glues.0) t x.end.0 0 0)
        × (at + length ds ≤ x.end.0) × (widths ds + 8192 * at ≤ 8192 * x.end.0)
    word_first f =
        let y = read-pending t at x d in
        let q = word_place s.glyph.0 p x.chars.0 x.glues.0 in
        let is = word_fits s p t at x here f in (
          (go-drawn s p t at 0 0 x m y q _ _ (sym (word-goes s p t at x m here f q _ refl refl))).0 ∙ ap (λ (ds : List Drawn). ds ++ drawn_from s q t x.end.0 0 0) is,
          subst (λ (ds : List Drawn). at + length ds ≤ x.end.0) is (tok-few s p t at 0 0 x y),
          subst (λ (ds : List Drawn). widths ds + 8192 * at ≤ 8192 * x.end.0) is (tok-narrow s p t at x m (read-ready r x d)),
        )

    word-left : fits_in p.cursor (x.chars.0 * s.glyph.0) ≡ false → p.empty ≡ false → drawn_from s p t at 0 0 ≡ []
    word-left f e =
        stop-drawn s p t at 0 0 x m (read-pending t at x d) _ (sym (rendered.word-waits s p t at x m here f e)) ∙ word-waits s p t at x here f e

-- ---- a space before a word

-- A run that was taken, by what it measured.
one-run : (s : Settings) (p : Place) (t : List ℕ) (at next looked : ℕ) (m : Measure) → Ready s p t at (one_space next looked) m → (q : Place) (n : Measure) (o : Offset) (shown : ℕ)
    → n ≡ noted Space (m.pen.0 + shown) (m.spaces.0 + 1) m → Go q n o ≡ step_from s p t at (one_space next looked) m
    → tok_drawn s p t at (one_space next looked) ≡ drawn Space at next 1 shown ∷ []
unfolding grown_by run_drawn pick
one-run s p t at next looked m h q n o shown is g =
    let a : m.spaces.0 + 1 - m.spaces.0 ≡ 1 = omega arith in
    let b : m.pen.0 + shown - m.pen.0 ≡ shown = omega arith in
    run-drawn s p t at (one_space next looked) m h.stands refl ∙ rw (← g, is, a, b)

module _ {s : Settings} {p : Place} {t : List ℕ} {at : ℕ} {m : Measure} (r : PassReady s p t at nothing_resumed m) (e : p.empty ≡ false)
    {next looked : ℕ} {x : Lexeme} (w : PairAt t at next looked x) (wide : ℕ) (is : wide ≡ spaces_width p.spaces 1)
  where
    abbrev run : Lexeme
    run = one_space next looked

    module _ (f : fits_in p.cursor wide ≡ true) where
      abbrev after : Place
      after = behind r e w wide is f

      -- What is drawn of it, and that the pass can run on from behind it.
      abbrev pub SpaceFirst : ℕ → Type 0
      SpaceFirst shown =
          (drawn_from s p t at 0 0 ≡ drawn Space at next 1 shown ∷ drawn_from s after t next 0 0)
          × PassReady s after t next nothing_resumed (noted Space (m.pen.0 + shown) (m.spaces.0 + 1) m)

      space-first : (l : Look) (shown : ℕ) → l.reach.0 ≤ x.reach.0
          → Go after (noted Space (m.pen.0 + shown) (m.spaces.0 + 1) m) l.reach ≡ whole_answer s after t run wide m → SpaceFirst shown
      space-first l shown far a =
          let d = w.space in
          let g = a ∙ space-whole (read-ready r run d) refl wide is (stays r e w) f (used_up p 1) after refl refl in (
            (go-drawn s p t at 0 0 run m (read-pending t at run d) after _ _ (sym g)).0
                ∙ ap (λ (ds : List Drawn). ds ++ drawn_from s after t next 0 0) (one-run s p t at next looked m (read-ready r run d) after _ _ shown refl g),
            (space-goes r e w wide is f l _ far a).ready,
          )

      -- The word behind it fits too.
      pub space-shown : fits_in after.cursor (x.chars.0 * s.glyph.0) ≡ true → SpaceFirst wide
      space-shown g =
          let l = look_at true x.reach.0 in
          space-first l wide (omega arith) (whole-drawn s after t run wide m l (looks-word r e w wide is f true (sym g)) _ refl refl)

      -- Else it has no width.
      space-hidden : fits_in after.cursor (x.chars.0 * s.glyph.0) ≡ false → SpaceFirst 0
      space-hidden g =
          let l = look_at false x.reach.0 in
          space-first l 0 (omega arith) (whole-hidden s after t run wide m l (looks-word r e w wide is f false (sym g)) _ refl refl)

    -- One that does not fit is not drawn.
    cut-none : fits_in p.cursor wide ≡ false → tok_drawn s p t at run ≡ []
    unfolding tok_drawn step on_space cut_run fits_in room_of pick
    cut-none f =
        let y = read-ready r run w.space in
        let room = p.cursor.width.0 - p.cursor.position.0 in
        let less : room < 1 * (wide / 1) = rw (div-one wide) (omega (arith, leb-false wide room f)) in
        let some : 0 < wide / 1 = omega arith in
        let none : room / (wide / 1) ≡ 0 = omega (arith, (div-lt_iff_lt-mul some).1 less) in
        rw (run-tok t at run refl y.stands, stays r e w, ← is, f, eq-eqb (room / (wide / 1)) 0 none)

    space-cuts : fits_in p.cursor wide ≡ false → drawn_from s p t at 0 0 ≡ []
    unfolding cut_answer cut_run stepped_at
    space-cuts f =
        stop-drawn s p t at 0 0 run m (read-pending t at run w.space) _ (sym (space-cut (read-ready r run w.space) refl wide is (stays r e w) f)) ∙ cut-none f

-- ---- a word that waits

module _ {s : Settings} {p : Place} {t : List ℕ} {at : ℕ} {m : Measure} (r : PassReady s p t at nothing_resumed m) (v : Waiting) (w : Waits s p t at v) (wide : ℕ)
    (is : wide ≡ spaces_width p.spaces 1)
  where
    module _ (f : fits_in p.cursor wide ≡ true) where
      only-space : (shown : ℕ) → SpaceFirst r w.empty w.pair wide is f shown → drawn_from s p t at 0 0 ≡ drawn Space at v.next.0 1 shown ∷ []
      only-space shown there =
          there.0
          ∙ ap (λ (ds : List Drawn). drawn Space at v.next.0 1 shown ∷ ds)
          (word-left there.1 w.word w.pair.word w.pair.kind (over-full r v w wide is f) w.empty)

      pub waits-thin : drawn_from s p t at 0 0 ≡ drawn Space at v.next.0 1 0 ∷ []
      waits-thin = only-space 0 (space-hidden r w.empty w.pair wide is f (over-full r v w wide is f))

    pub waits-cut : fits_in p.cursor wide ≡ false → drawn_from s p t at 0 0 ≡ []
    waits-cut f = space-cuts r w.empty w.pair wide is f
