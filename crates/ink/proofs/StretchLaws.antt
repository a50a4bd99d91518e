-- A stretch of a word and the gluing character after it, put one after the other.
-- Assumes nothing.
use Prim.Native.Nat.{ℕ, ◌+◌, ◌≤◌}
use mathlib.Core.Path.{◌≡◌, refl, sym}
use mathlib.Core.Bool.{true, false}
use mathlib.Core.List.{List, [], ◌∷◌}
use native.Mathlib.Omega.{arith}
use borrow.Author.Tests.{eq-eqb, ne_eqb}
use lib.Dec.{eqb}
use lib.ListN.{length}
use Rattle.basis.specs.Choice.{pick, by_test}
use Rattle.utf8.specs.Encoding.{bytes}
use Rattle.meaning.specs.Characters.{glue}
use Rattle.meaning.specs.SpaceConfig.{spaces_width, spaces_after}
use Rattle.meaning.specs.Words.{drawn}
use Rattle.meaning.specs.declared.cursor.Spaces.{Spaces}
use Rattle.meaning.specs.declared.line.EventKind.TheVariants.{Space, Printed}
use Rattle.moves.specs.Fine.{FineSpaces}
use Rattle.ink.specs.Sheet.{Sheet, sheet, drawn_on, on_append, widths, pen-after}
use Rattle.ink.specs.WordDrawn.{closed, rest_drawn, rest-glues, rest-grows}
use Rattle.ink.specs.Stretching.{rest_on, FineStretch, Passed}
use Rattle.ink.specs.declared.pen.Pen.{Pen}
use Rattle.ink.specs.declared.words.Stretch.{Stretch}

pub space-small : (sp : Spaces) → FineSpaces sp → spaces_width sp 1 ≤ 4161
unfolding spaces_width
space-small sp f = omega arith

module _ (s : Sheet) (from to wide end : ℕ) (sp : Spaces) (w : ℕ) (is : w ≡ spaces_width sp 1) where
  pub closes-empty : to ≡ from → drawn_on s (drawn Space to end 1 w ∷ []) ≡ drawn_on s (closed from to wide end sp)
  unfolding closed pick
  closes-empty e = rw (is, eq-eqb to from e)

  pub closes : (to ≡ from → ⊥) → (q : Sheet) → q ≡ drawn_on s (drawn Printed from to 0 wide ∷ [])
      → drawn_on q (drawn Space to end 1 w ∷ []) ≡ drawn_on s (closed from to wide end sp)
  unfolding closed pick
  closes n q e =
      rw (e, is, ne_eqb to from n)
      (sym (on_append s (drawn Printed from to 0 wide ∷ []) (drawn Space to end 1 (spaces_width sp 1) ∷ [])))

-- ---- one more character

closed-small : (from to wide end : ℕ) (sp : Spaces) → FineSpaces sp
    → (length (closed from to wide end sp) ≤ 2) × (widths (closed from to wide end sp) ≤ wide + 4161)
unfolding closed widths pick
closed-small from to wide end sp f =
    by_test (eqb to from) (λ e. rw e (omega (arith, space-small sp f))) (λ e. rw e (omega (arith, space-small sp f)))

after_fine : (sp : Spaces) → FineSpaces sp → FineSpaces (spaces_after sp 1)
unfolding spaces_after
after_fine sp f = omega arith

module _ (t u : List ℕ) (w : Stretch) (c len glyph : ℕ) (is : len ≡ bytes c) (fine : FineStretch w) where
  glues-on : glue c ≡ true → (pen : Pen)
      → sheet u pen ≡ drawn_on (sheet t w.pen) (closed w.from w.at w.wide (w.at + len) w.spaces) → (cs : List ℕ)
      → drawn_on (sheet u pen) (rest_drawn glyph (spaces_after w.spaces 1) (w.at + len) (w.at + len) 0 cs) ≡ rest_on glyph t w (c ∷ cs)
  unfolding rest_on
  glues-on g pen e cs =
      rw (e, rest-glues glyph w.spaces w.from w.at w.wide c cs g, ← is) (sym (on_append (sheet t w.pen) _ _))

  pub pass-glues : glue c ≡ true → (pen : Pen) (sp : Spaces)
      → sheet u pen ≡ drawn_on (sheet t w.pen) (closed w.from w.at w.wide (w.at + len) w.spaces)
      → sp ≡ spaces_after w.spaces 1
      → Passed t u w (record { pen = pen; spaces = sp; from = w.at + len; at = w.at + len; wide = 0 }) c len glyph
  unfolding rest_on
  pass-glues g pen sp e f =
      let small = closed-small w.from w.at w.wide (w.at + len) w.spaces fine.spaces in
      let on = pen-after t u w.pen pen _ e in
      record {
        draws = λ cs. rw f (glues-on g pen e cs);
        at = refl;
        spaces = rw f (after_fine w.spaces fine.spaces);
        order = omega arith;
        few = omega (arith, on.0, small.0);
        narrow = omega (arith, on.1, small.1);
      }

  pub pass-grows : glue c ≡ false → glyph ≤ 64
      → Passed t t w (record { pen = w.pen; spaces = w.spaces; from = w.from; at = w.at + len; wide = w.wide + glyph }) c len glyph
  unfolding rest_on
  pass-grows g h =
      record {
        draws = λ cs. rw (rest-grows glyph w.spaces w.from w.at w.wide c cs g, ← is);
        at = refl;
        spaces = fine.spaces;
        order = omega (arith, fine.order);
        few = omega arith;
        narrow = omega arith;
      }
