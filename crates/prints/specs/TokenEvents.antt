-- The events of a token, from what its step has measured.
-- Assumes nothing.
use Rattle.std.specs.Prelude.{ℕ, ◌+◌, ◌-◌, ◌*◌, ◌/◌, ◌≤◌, ◌≡◌, refl, Bool, ◌||◌, List, [], ◌∷◌, eqb, take, None, Option, Some}
use Rattle.meaning.specs.declared.counts.Pixels.{Pixels}
use Rattle.std.proofs.Common.{sym, ap}
use Rattle.std.proofs.Math.Bool.{true, false, not}
use native.Mathlib.Omega.{arith}
use borrow.Author.Tests.{eq-eqb, ne_eqb}
use Rattle.basis.specs.Choice.{pick, pick_cases}
use Rattle.utf8.specs.Encoding.{size}
use Rattle.meaning.specs.Tokens.{Tok, newLine, carriageReturn, softHyphen, size_of, chars_of, tokens}
use Rattle.meaning.specs.Cursor.{room_of, fits_in}
use Rattle.meaning.specs.SpaceConfig.{spaces_width}
use Rattle.meaning.specs.Lookahead.{Looked}
use Rattle.meaning.specs.Words.{drawn}
use Rattle.meaning.specs.LineIter.{Held, Step, go, stop, skips, when, cut_run, on_space, hyphenated, on_break, step}
use Rattle.meaning.specs.Line.{measured}
use Rattle.meaning.specs.declared.tokens.TokenKind.TheVariants.{Whitespace, Break, NewLine, CarriageReturn}
use Rattle.meaning.specs.declared.settings.Settings.{Settings}
use Rattle.meaning.specs.declared.cursor.Place.{Place}
use Rattle.meaning.specs.declared.line.LineEnd.{LineEnd}
use Rattle.meaning.specs.declared.line.EventKind.TheVariants.{Space, Printed}
use Rattle.meaning.specs.declared.line.Measure.{Measure}
use Rattle.laws.specs.Spell.{spell, SoundTok}
use Rattle.laws.specs.TokenLaws.{tokens_cover}
use Rattle.parser.specs.Lexing.{chars_from, lexeme_at}
use Rattle.parser.specs.declared.lexeme.Lexeme.{Lexeme}
use Rattle.moves.specs.FineSteps as fine
use Rattle.steps.specs.Stepping.{stepped_at, tok_of}
use Rattle.steps.specs.Ready.{Standing, Ready, step_from}
use Rattle.steps.specs.declared.step.Stepped.{Stepped}
use Rattle.steps.specs.RunLaws.{run-tok, run_end}
use Rattle.ink.specs.Sheet.{Sheet, drawn_on, widths, measured-pen, measured-spaces}
use Rattle.prints.specs.TokenDrawn.{drawn_of, tok_drawn, measure_of, grown_by, Grows, run_drawn, print_drawn}
use Rattle.prints.specs.declared.grown.Grown.{Grown}

-- ---- a space run

module _ (t : List ℕ) (at : ℕ) (x : Lexeme) (m : Measure) (u : Tok) where
  abbrev RunOf : Step → Type 0
  RunOf y = drawn_of y ≡ run_drawn t at x (grown_by m (stepped_at m at u y))

  run-goes : (q : Place) (to n w r : ℕ) → to ≡ x.end.0 → RunOf (go q (drawn Space at to n w ∷ []) r)
  unfolding stepped_at measured grown_by run_drawn pick
  run-goes q to n w r e =
      let a : m.spaces.0 + n - m.spaces.0 ≡ n = omega arith in
      let b : m.pen.0 + w - m.pen.0 ≡ w = omega arith in
      rw (e, a, b)

  run-stops : (b : Bool) (e : LineEnd) (k w : ℕ) (n : ℕ) (h : Held) (d r : ℕ) → eqb k 0 ≡ b
      → RunOf (stop e (pick b [] (drawn Space at (at + size (take k (take x.chars.0 (chars_from t at)))) k w ∷ [])) n h d r)
  unfolding stepped_at measured grown_by run_drawn pick
  run-stops true e k w n h d r f =
      let a : m.spaces.0 - m.spaces.0 ≡ 0 = omega arith in
      rw (eq-eqb (m.spaces.0 - m.spaces.0) 0 a)
  run-stops false e k w n h d r f =
      let a : m.spaces.0 + k - m.spaces.0 ≡ k = omega arith in
      let b : m.pen.0 + w - m.pen.0 ≡ w = omega arith in
      rw (a, b, f)

  run_of : (s : Settings) (p : Place) (n : ℕ) (l : Looked) → x.end.0 ≡ at + size (take x.chars.0 (chars_from t at))
      → RunOf (on_space s p at (take x.chars.0 (chars_from t at)) n l)
  unfolding on_space cut_run
  run_of s p n l e =
      let w = spaces_width p.spaces n in
      let k = room_of p.cursor / (w / n) in
      pick_cases RunOf (skips s p) (λ _. run-goes _ _ n 0 0 (sym e))
      (λ _. pick_cases RunOf (fits_in p.cursor w) (λ _. run-goes _ _ n (when l.fits w) l.reach (sym e))
      (λ _. run-stops (eqb k 0) _ k 0 _ _ 0 0 refl))

module _ (s : Settings) (p : Place) (t : List ℕ) (at : ℕ) (x : Lexeme) (m : Measure) (h : Standing t at x) where
  pub run-drawn : x.kind ≡ Whitespace → tok_drawn s p t at x ≡ run_drawn t at x (grown_by m (step_from s p t at x m))
  unfolding tok_drawn step_from step
  run-drawn k = rw (run-tok t at x k h) (run_of t at x m _ s p x.count.0 _ (run_end t at x k h))

-- ---- a soft hyphen

module _ (at : ℕ) (m : Measure) (u : Tok) (s : Settings) (p : Place) (glyph : 1 ≤ s.glyph.0) where
  abbrev HyphenOf : Step → Type 0
  HyphenOf y = drawn_of y ≡ print_drawn at (at + 2) (grown_by m (stepped_at m at u y))

  goes_none : (q : Place) (r : ℕ) → HyphenOf (go q [] r)
  unfolding stepped_at measured grown_by print_drawn pick
  goes_none q r = rw (eq-eqb (m.pen.0 - m.pen.0) 0 (omega arith))

  stops-none : (e : LineEnd) (n : ℕ) (h : Held) (d r : ℕ) → HyphenOf (stop e [] n h d r)
  unfolding stepped_at measured grown_by print_drawn pick
  stops-none e n h d r = rw (eq-eqb (m.pen.0 - m.pen.0) 0 (omega arith))

  wider : m.pen.0 + s.glyph.0 - m.pen.0 ≡ s.glyph.0
  wider = omega arith

  some : s.glyph.0 ≡ 0 → ⊥
  some e = omega arith

  goes-printed : (q : Place) (r : ℕ) → HyphenOf (go q (drawn Printed at (at + 2) 0 s.glyph.0 ∷ []) r)
  unfolding stepped_at measured grown_by print_drawn pick
  goes-printed q r = rw (wider, ne_eqb s.glyph.0 0 some)

  stops-printed : (e : LineEnd) (n : ℕ) (h : Held) (d r : ℕ) → HyphenOf (stop e (drawn Printed at (at + 2) 0 s.glyph.0 ∷ []) n h d r)
  unfolding stepped_at measured grown_by print_drawn pick
  stops-printed e n h d r = rw (wider, ne_eqb s.glyph.0 0 some)

  hyphen_of : (r : ℕ) → HyphenOf (hyphenated s p at r)
  unfolding hyphenated
  hyphen_of r =
      pick_cases HyphenOf (fits_in p.cursor s.glyph.0)
      (λ _. pick_cases HyphenOf p.empty (λ _. goes-printed _ r) (λ _. stops-printed _ 1 _ 0 r))
      (λ _. pick_cases HyphenOf p.empty (λ _. goes_none _ r) (λ _. stops-none _ 0 _ 0 r))

  break_of : (w : Option Pixels) (r : ℕ) → HyphenOf (on_break s p at w r)
  unfolding on_break
  break_of None r = goes_none p r
  break_of (Some w) r = pick_cases HyphenOf (p.empty || not (fits_in p.cursor w.0)) (λ _. hyphen_of r) (λ _. goes_none p r)

module _ (t : List ℕ) (at : ℕ) (x : Lexeme) where
  tok_break : x.kind ≡ Break → tok_of t at x ≡ softHyphen
  unfolding tok_of
  tok_break k = rw k

  tok-line : x.kind ≡ NewLine → tok_of t at x ≡ newLine
  unfolding tok_of
  tok-line k = rw k

  tok_return : x.kind ≡ CarriageReturn → tok_of t at x ≡ carriageReturn
  unfolding tok_of
  tok_return k = rw k

module _ (s : Settings) (p : Place) (t : List ℕ) (at : ℕ) (x : Lexeme) where
  pub break_drawn : (m : Measure) → 1 ≤ s.glyph.0 → x.kind ≡ Break → tok_drawn s p t at x ≡ print_drawn at (at + 2) (grown_by m (step_from s p t at x m))
  unfolding tok_drawn step_from step
  break_drawn m g k = rw (tok_break t at x k) (break_of at m softHyphen s p g _ _)

  -- ---- a line's end

  pub line-drawn : x.kind ≡ NewLine → tok_drawn s p t at x ≡ drawn Space at (at + 1) 0 0 ∷ []
  unfolding tok_drawn step
  line-drawn k = rw (tok-line t at x k)

  pub return_drawn : x.kind ≡ CarriageReturn → tok_drawn s p t at x ≡ drawn Space at (at + 1) 0 0 ∷ []
  unfolding tok_drawn step
  return_drawn k = rw (tok_return t at x k)

-- ---- what is measured grows

measure_of_lem : (m : Measure) (at : ℕ) (u : Tok) (y : Step) → measure_of (stepped_at m at u y) ≡ measured m (drawn_of y)
unfolding stepped_at
measure_of_lem m at u (go q ds r) = refl
measure_of_lem m at u (stop e ds k h d r) = refl

fine_pen : (p : Place) (m : Measure) (z n : ℕ) (y : Step) → fine.FineStep p m z n y → (measured m (drawn_of y)).pen.0 ≤ m.pen.0 + 8192 * z
fine_pen p m z n (go q ds r) f = f.grows.pen
fine_pen p m z n (stop e ds k h d r) f = f.pen

tok-size : (t : List ℕ) (at : ℕ) (x : Lexeme) → Standing t at x → x.end.0 ≡ at + size_of (tok_of t at x)
unfolding lexeme_at
tok-size t at x h = ap (λ (y : Lexeme). y.end.0) h.is

pub step-grows : (s : Settings) (p : Place) (t : List ℕ) (at : ℕ) (x : Lexeme) (m : Measure) → Ready s p t at x m
    → Grows m (measure_of (step_from s p t at x m))
unfolding step_from
step-grows s p t at x m h =
    let u = tok_of t at x in
    let ts = tokens (chars_from t x.end.0) in
    let y = step s p at u ts in
    let g : SoundTok u (spell ts) = rw tokens_cover h.stands.sound in
    let f = fine_pen p m (size_of u) (chars_of u) y (fine.step_fine s p at m u ts h.settings h.place g) in
    rw (measure_of_lem m at u y)
    (record {
      pen = omega (arith, measured-pen m (drawn_of y));
      spaces = measured-spaces m (drawn_of y);
      narrow = omega (arith, f, tok-size t at x h.stands, h.stands.within, h.short);
    })

-- What a token draws is no wider than its bytes allow.
pub tok-narrow : (s : Settings) (p : Place) (t : List ℕ) (at : ℕ) (x : Lexeme) (m : Measure) → Ready s p t at x m
    → widths (tok_drawn s p t at x) + 8192 * at ≤ 8192 * x.end.0
unfolding tok_drawn
tok-narrow s p t at x m h =
    let u = tok_of t at x in
    let ts = tokens (chars_from t x.end.0) in
    let y = step s p at u ts in
    let g : SoundTok u (spell ts) = rw tokens_cover h.stands.sound in
    let f = fine_pen p m (size_of u) (chars_of u) y (fine.step_fine s p at m u ts h.settings h.place g) in
    omega (arith, f, measured-pen m (drawn_of y), tok-size t at x h.stands)

-- ---- the same, of a step that was taken and its growth

module _ (s : Settings) (p : Place) (t : List ℕ) (at : ℕ) (x : Lexeme) (m : Measure) (y : Stepped) (h : Ready s p t at x m)
    (is : y ≡ step_from s p t at x m)
  where
    pub step_grew : Grows m (measure_of y)
    step_grew = rw is (step-grows s p t at x m h)

    module _ (g : Grown) (e : g ≡ grown_by m y) where
      pub grown-narrow : g.width.0 ≤ 8192 * 65535
      unfolding grown_by
      grown-narrow = rw e (omega (arith, step_grew.narrow))

      pub run-events : (sh : Sheet) → x.kind ≡ Whitespace → drawn_on sh (run_drawn t at x g) ≡ drawn_on sh (tok_drawn s p t at x)
      run-events sh k = rw (e, is, run-drawn s p t at x m h.stands k)

      pub hyphen-events : (sh : Sheet) → x.kind ≡ Break → drawn_on sh (print_drawn at (at + 2) g) ≡ drawn_on sh (tok_drawn s p t at x)
      hyphen-events sh k = rw (e, is, break_drawn s p t at x m h.settings.0 k)
