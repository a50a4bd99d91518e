-- What the running step of a word answers.
-- Assumes nothing.
use Rattle.std.specs.Prelude.{ℕ, ◌+◌, ◌-◌, ◌*◌, ◌/◌, ◌≤◌, ◌≡◌, true, false, ◌&&◌, List}
use Rattle.std.proofs.Common.{sym, ◌∙◌, mul_comm, arith}
use Rattle.std.proofs.Math.Path.{ap}
use Rattle.std.proofs.Math.Nat.{div-le_of_le-mul, add-zero}
use borrow.Author.Tests.{leb-true, eq-eqb, ne_eqb}
use Rattle.std.proofs.Math.ListN.{length, take, length-take}
use Rattle.std.proofs.Math.Seq.{length-take-le, take-length, take-take}
use Rattle.basis.specs.Choice.{pick}
use Rattle.utf8.specs.Encoding.{size}
use Rattle.meaning.specs.Tokens.{word, ender, chars_of, size_of}
use Rattle.meaning.specs.Cursor.{room_of, fits_in, has_moved}
use Rattle.meaning.specs.Words.{glues}
use Rattle.meaning.specs.LineIter.{wrap_on, unfit_word, cut_word, on_word, step}
use Rattle.meaning.specs.Line.{measured}
use Rattle.meaning.specs.declared.tokens.TokenKind.TheVariants.{Word}
use Rattle.meaning.specs.declared.settings.Settings.{Settings}
use Rattle.meaning.specs.declared.cursor.Place.{Place}
use Rattle.meaning.specs.declared.line.LineEnd.TheVariants.{LineBreak}
use Rattle.meaning.specs.declared.line.Measure.{Measure}
use Rattle.laws.specs.TokenLaws.{length-size}
use Rattle.laws.specs.Measuring.{glues-length, word-measured}
use Rattle.laws.specs.Steps.{too_wide}
use Rattle.parser.specs.Lexing.{chars_from, lexeme_at, part_of}
use Rattle.parser.specs.declared.lexeme.Lexeme.{Lexeme}
use Rattle.parser.specs.declared.part.Part.{Part}
use Rattle.steps.specs.Stepping.{resumed_at, stepped_at, tok_of}
use Rattle.moves.specs.Fine.{FinePlace}
use Rattle.moves.specs.FineLaws.{times_bound}
use Rattle.steps.specs.Ready.{Standing, step_from}
use Rattle.steps.specs.Stopping.{word_measure, word_place, ends_before}
use Rattle.steps.specs.declared.step.Stepped.{Stepped}
use Rattle.steps.specs.declared.step.Stepped.TheVariants.{Go, Stop}

abbrev pub word_at : List ℕ → ℕ → Lexeme → List ℕ
word_at t at x = take x.chars.0 (chars_from t at)

-- A word of the text, by its numbers.
pub record WordAt (t : List ℕ) (at : ℕ) (x : Lexeme) : Type 0 where
  pub tok : tok_of t at x ≡ word (word_at t at x) (x.reach.0 - x.end.0)
  pub chars : x.chars.0 ≡ length (word_at t at x)
  pub glues : x.glues.0 ≡ glues (word_at t at x)
  pub end : x.end.0 ≡ at + size (word_at t at x)
  pub few : x.chars.0 ≤ x.end.0 - at
  pub fewer : x.glues.0 ≤ x.chars.0
  pub ends : x.reach.0 ≤ x.end.0 + ender (chars_from t x.end.0)

tok-word : (t : List ℕ) (at : ℕ) (x : Lexeme) → x.kind ≡ Word → tok_of t at x ≡ word (word_at t at x) (x.reach.0 - x.end.0)
unfolding tok_of
tok-word t at x k = rw k

pub word-at : (t : List ℕ) (at : ℕ) (x : Lexeme) → Standing t at x → x.kind ≡ Word → WordAt t at x
unfolding lexeme_at chars_of size_of
word-at t at x h k =
    let ws = word_at t at x in
    let e = tok-word t at x k in
    let is : x ≡ lexeme_at at (word ws (x.reach.0 - x.end.0)) = h.is ∙ ap (lexeme_at at) e in
    let chars : x.chars.0 ≡ length ws = ap (λ (y : Lexeme). y.chars.0) is in
    let gl : x.glues.0 ≡ glues ws = ap (λ (y : Lexeme). y.glues.0) is in
    let end : x.end.0 ≡ at + size ws = ap (λ (y : Lexeme). y.end.0) is in
    let sound = rw e at h.sound in
    record { tok = e; chars = chars; glues = gl; end = end; few = omega (arith, length-size ws); fewer = omega (arith, glues-length ws); ends = omega arith }

-- ---- the numbers fit their types

-- A word that fits takes no more than a box.
pub fits-small : (p : Place) (w : ℕ) → FinePlace p → fits_in p.cursor w ≡ true → p.cursor.position.0 + w ≤ 4096
unfolding fits_in room_of
fits-small p w f e = omega (arith, leb-true w (p.cursor.width.0 - p.cursor.position.0) e)

pub letters-small : (n k glyph : ℕ) → n ≤ 65535 → glyph ≤ 64 → (n - k) * glyph ≤ 65535 * 64
letters-small n k glyph h g = times_bound {n = 65535} (n - k) glyph (omega arith) g

-- ---- the three things that a word does

module _ (s : Settings) (p : Place) (t : List ℕ) (at : ℕ) (x : Lexeme) (m : Measure) (w : WordAt t at x) where
  abbrev step_is : Stepped
  step_is = stepped_at m at (word (word_at t at x) (x.reach.0 - x.end.0)) (on_word s p at (word_at t at x))

  stepped : step_from s p t at x m ≡ step_is
  unfolding step_from step
  stepped = rw w.tok

  pub word-goes : fits_in p.cursor (x.chars.0 * s.glyph.0) ≡ true → (q : Place) (n : Measure)
      → q ≡ word_place s.glyph.0 p x.chars.0 x.glues.0
      → n ≡ word_measure s.glyph.0 p.spaces m x.chars.0 x.glues.0
      → Go q n (record { 0 = 0 }) ≡ step_from s p t at x m
  unfolding on_word stepped_at word_place word_measure pick
  word-goes e q n f g =
      rw (f, g, stepped, ← w.chars, e, word-measured m s.glyph.0 p.spaces at (word_at t at x), ← w.chars, ← w.glues)

  pub word-waits : fits_in p.cursor (x.chars.0 * s.glyph.0) ≡ false → p.empty ≡ false
      → Stop (ends_before LineBreak m at 0 0) ≡ step_from s p t at x m
  unfolding on_word stepped_at ends_before resumed_at measured size pick
  word-waits e f = rw (stepped, ← w.chars, e, f, add-zero at)

  -- A word too wide for an empty line.
  module _ (e : fits_in p.cursor (x.chars.0 * s.glyph.0) ≡ false) (f : p.empty ≡ true) where
    abbrev fitting : ℕ
    fitting = room_of p.cursor / s.glyph.0

    cuts : step_from s p t at x m ≡ stepped_at m at (word (word_at t at x) (x.reach.0 - x.end.0)) (cut_word s p at (word_at t at x))
    unfolding on_word pick
    cuts = rw (stepped, ← w.chars, e, f)

    pub part-within : fitting ≤ x.chars.0
    part-within =
        div-le_of_le-mul s.glyph.0 (omega (arith, too_wide p.cursor (x.chars.0 * s.glyph.0) e, mul_comm s.glyph.0 x.chars.0))

    pub part_small : (k : ℕ) (part : Part) → x.end.0 ≤ 65535 → k ≡ fitting → part ≡ part_of at k (chars_from t at)
        → (k ≤ 65535) × (part.glues.0 ≤ k)
    unfolding part_of
    part_small k part l g h =
        let cs = chars_from t at in
        rw h (omega (arith, part-within, w.few), omega (arith, glues-length (take k cs), length-take k cs))

    -- No character of it fits: it waits, or is dropped.
    pub moved-waits : fitting ≡ 0 → wrap_on s && has_moved p.cursor ≡ true → Stop (ends_before LineBreak m at 0 0) ≡ step_from s p t at x m
    unfolding cut_word unfit_word stepped_at ends_before resumed_at measured size pick
    moved-waits z h = rw (cuts, eq-eqb (room_of p.cursor / s.glyph.0) 0 z, h, add-zero at)

    pub word_drops : fitting ≡ 0 → wrap_on s && has_moved p.cursor ≡ false
        → Stop (ends_before LineBreak m x.end.0 x.chars.0 0) ≡ step_from s p t at x m
    unfolding cut_word unfit_word stepped_at ends_before resumed_at measured size pick
    word_drops z h = rw (cuts, eq-eqb (room_of p.cursor / s.glyph.0) 0 z, h, take-length (word_at t at x), ← w.end, ← w.chars)

    pub word-parts : (k : ℕ) (part : Part) (n : Measure) → k ≡ fitting → (k ≡ 0 → ⊥)
        → part ≡ part_of at k (chars_from t at) → n ≡ word_measure s.glyph.0 p.spaces m k part.glues.0
        → Stop (ends_before LineBreak n part.end.0 0 0) ≡ step_from s p t at x m
    unfolding cut_word stepped_at ends_before resumed_at word_measure part_of pick
    word-parts k part n g z h i =
        let cs = chars_from t at in
        let short : k ≤ x.chars.0 = rw g part-within in
        let same : take k (word_at t at x) ≡ take k cs = take-take k x.chars.0 cs short in
        let long : length (take k cs) ≡ k = ap length (sym same) ∙ length-take-le k (word_at t at x) (omega (arith, w.chars)) in
        rw (i, h, cuts, ne_eqb (room_of p.cursor / s.glyph.0) 0 (λ q. z (g ∙ q)), ← g, same, word-measured m s.glyph.0 p.spaces at (take k cs), long)
