-- The events of a word, in each of its cases.
-- Assumes nothing.
use Prim.Native.Nat.{ℕ, ◌*◌, ◌/◌, ◌≤◌}
use mathlib.Core.Path.{◌≡◌, refl, sym, ◌∙◌}
use mathlib.Core.Bool.{true, false, ◌&&◌}
use mathlib.Core.List.{List, []}
use native.Mathlib.Nat.{mul_comm, div-le_of_le-mul}
use native.Mathlib.Omega.{arith}
use borrow.Author.Tests.{eq-eqb, ne_eqb}
use lib.ListN.{take, length-take}
use lib.Seq.{take-take}
use Rattle.basis.specs.Choice.{pick, pick_cases}
use Rattle.meaning.specs.Cursor.{room_of, fits_in, has_moved}
use Rattle.meaning.specs.Words.{drawn_word}
use Rattle.meaning.specs.LineIter.{Step, wrap_on, unfit_word, cut_word, on_word, step}
use Rattle.meaning.specs.declared.settings.Settings.{Settings}
use Rattle.meaning.specs.declared.cursor.Place.{Place}
use Rattle.laws.specs.Steps.{too_wide}
use Rattle.parser.specs.Lexing.{chars_from, part_of}
use Rattle.parser.specs.declared.lexeme.Lexeme.{Lexeme}
use Rattle.parser.specs.declared.part.Part.{Part}
use Rattle.steps.specs.WordLaws.{WordAt, word_at}
use Rattle.ink.specs.Sheet.{Sheet, drawn_on}
use Rattle.ink.specs.Stretching.{WordRoom}
use Rattle.ink.specs.declared.pen.Pen.{Pen}
use Rattle.prints.specs.TokenDrawn.{drawn_of, tok_drawn, PartIs, DrawReady}

-- ---- what is drawn of it can be drawn

module _ (t : List ℕ) (at : ℕ) (x : Lexeme) (w : WordAt t at x) where
  pub whole_part : PartIs t at x.chars.0 (record { end = x.end; glues = x.glues })
  unfolding part_of
  whole_part = ((λ i. record { end = record { 0 = w.end i }; glues = record { 0 = w.glues i } }), sym w.chars)

  pub some-part : (k : ℕ) → k ≤ x.chars.0 → (part : Part) → part ≡ part_of at k (chars_from t at) → PartIs t at k part
  some-part k h part e = (e, omega (arith, length-take k (chars_from t at), length-take x.chars.0 (chars_from t at), w.chars))

module _ {s : Settings} {p : Place} {t : List ℕ} {at : ℕ} {x : Lexeme} {pen : Pen} (h : DrawReady s p t at x pen) (w : WordAt t at x) where
  pub word_room : (n : ℕ) → n ≤ x.chars.0 → WordRoom t at n s.glyph.0 p.spaces pen
  word_room n l =
      record {
        short = h.short;
        inside = omega (arith, h.stands.longer, h.stands.within);
        many = omega (arith, w.few, h.stands.within, h.short);
        glyph = h.settings.1;
        spaces = h.place.1;
        few = h.pen.few;
        narrow = h.pen.narrow;
      }

-- ---- what is drawn of it

-- A word of which no character fits waits or is dropped, and neither draws.
unfit-draws : (s : Settings) (p : Place) (cs : List ℕ) → drawn_of (unfit_word s p cs) ≡ []
unfolding unfit_word
unfit-draws s p cs = pick_cases (λ (y : Step). drawn_of y ≡ []) (wrap_on s && has_moved p.cursor) (λ _. refl) (λ _. refl)

module _ (sh : Sheet) (s : Settings) (p : Place) (t : List ℕ) (at : ℕ) (x : Lexeme) (w : WordAt t at x) where
  pub word-takes : fits_in p.cursor (x.chars.0 * s.glyph.0) ≡ true
      → drawn_on sh (drawn_word s.glyph.0 p.spaces at (take x.chars.0 (chars_from t at))) ≡ drawn_on sh (tok_drawn s p t at x)
  unfolding tok_drawn step on_word pick
  word-takes e = rw (w.tok, ← w.chars, e)

  module _ (e : fits_in p.cursor (x.chars.0 * s.glyph.0) ≡ false) where
    pub word-waits : p.empty ≡ false → sh ≡ drawn_on sh (tok_drawn s p t at x)
    unfolding tok_drawn step on_word pick drawn_on
    word-waits f = rw (w.tok, ← w.chars, e, f)

    module _ (f : p.empty ≡ true) (k : ℕ) (g : k ≡ room_of p.cursor / s.glyph.0) where
      pub word-unfit : k ≡ 0 → sh ≡ drawn_on sh (tok_drawn s p t at x)
      unfolding tok_drawn step on_word cut_word pick drawn_on
      word-unfit z = rw (w.tok, ← w.chars, e, f, eq-eqb (room_of p.cursor / s.glyph.0) 0 (sym g ∙ z), unfit-draws s (record { cursor = p.cursor; spaces = p.spaces; empty = true }) (word_at t at x))

      pub part-few : k ≤ x.chars.0
      part-few =
          rw g
          (div-le_of_le-mul s.glyph.0 (omega (arith, too_wide p.cursor (x.chars.0 * s.glyph.0) e, mul_comm s.glyph.0 x.chars.0)))

      pub word-parts : (k ≡ 0 → ⊥)
          → drawn_on sh (drawn_word s.glyph.0 p.spaces at (take k (chars_from t at))) ≡ drawn_on sh (tok_drawn s p t at x)
      unfolding tok_drawn step on_word cut_word pick
      word-parts z =
          let same : take k (word_at t at x) ≡ take k (chars_from t at) = take-take k x.chars.0 (chars_from t at) part-few in
          rw (w.tok, ← w.chars, e, f, ne_eqb (room_of p.cursor / s.glyph.0) 0 (λ q. z (g ∙ q)), ← g, same)
