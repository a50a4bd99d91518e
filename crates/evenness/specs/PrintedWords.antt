-- What a word prints, whatever its spaces: the same prints, and so many glyphs where spaces are plain (rule 8).
-- Assumes nothing.
use Rattle.std.specs.Prelude.{ℕ, ◌+◌, ◌*◌, ◌≡◌, refl, List, [], ◌∷◌, ◌++◌, length}
use Rattle.std.proofs.Common.{sym, ap, subst, ◌∙◌, inl, append-nil, arith}
use Rattle.utf8.specs.Encoding.{bytes, size}
use Rattle.meaning.specs.SpaceConfig.{spaces_after}
use Rattle.meaning.specs.Words.{Drawn, drawn, Stretches, last, glued, stretches, printed_first, drawn_stretches, drawn_word}
use Rattle.meaning.specs.declared.cursor.Spaces.{Spaces}
use Rattle.meaning.specs.declared.line.EventKind.{EventKind}
use Rattle.meaning.specs.declared.line.EventKind.TheVariants.{Space, Printed, Move}
use Rattle.laws.specs.Pens.{pen_after, Plain, word-pen}
use Rattle.laws.specs.LastPrint.{to_last_print, width_of, print_if, prints, prints-kept}
use Rattle.evenness.specs.PrintEnds.{AnyDrawn, print_more, print_none}

-- ---- prints of lists

print_append : (k : EventKind) (d : Drawn) (ps es : List Drawn) → print_if k d ps ++ es ≡ print_if k d (ps ++ es)
print_append Printed d ps es = refl
print_append Space d ps es = refl
print_append Move d ps es = refl

pub prints_append : (ds es : List Drawn) → prints (ds ++ es) ≡ prints ds ++ prints es
unfolding prints
prints_append [] es = refl
prints_append (d ∷ ds) es = ap (print_if d.kind d) (prints_append ds es) ∙ sym (print_append d.kind d (prints ds) (prints es))

-- Nothing printed.
pub no_prints : (ds : List Drawn) → to_last_print ds ≡ [] → prints ds ≡ []
unfolding prints
no_prints ds e = sym (prints-kept ds) ∙ ap prints e

pub width_append : (ds es : List Drawn) → width_of (ds ++ es) ≡ width_of ds + width_of es
unfolding width_of
width_append [] es = omega arith
width_append (d ∷ ds) es = omega (arith, width_append ds es)

pen-width : (pen : ℕ) (ds : List Drawn) → pen_after pen ds ≡ pen + width_of ds
unfolding pen_after width_of
pen-width pen [] = omega arith
pen-width pen (d ∷ ds) = omega (arith, pen-width (pen + d.width) ds)

-- ---- words

first-prints : (g at : ℕ) (w : List ℕ) (xs ys : List Drawn) → prints xs ≡ prints ys → prints (printed_first g at w xs) ≡ prints (printed_first g at w ys)
unfolding printed_first prints
first-prints g at [] xs ys e = e
first-prints g at (c ∷ w) xs ys e = ap (λ (ps : List Drawn). drawn Printed at (at + size (c ∷ w)) 0 (length (c ∷ w) * g) ∷ ps) e

stretches-prints : (g : ℕ) (a b : Spaces) (at : ℕ) (w : Stretches) → prints (drawn_stretches g a at w) ≡ prints (drawn_stretches g b at w)
unfolding drawn_stretches prints
stretches-prints g a b at (last w) = refl
stretches-prints g a b at (glued w c more) =
    first-prints g at w _ _ (stretches-prints g (spaces_after a 1) (spaces_after b 1) (at + size w + bytes c) more)

-- What a word prints does not depend on its spaces.
pub word-prints : (g : ℕ) (a b : Spaces) (at : ℕ) (cs : List ℕ) → prints (drawn_word g a at cs) ≡ prints (drawn_word g b at cs)
unfolding drawn_word
word-prints g a b at cs = stretches-prints g a b at (stretches cs)

-- With plain spaces it is so many glyphs wide.
pub word_width : (g : ℕ) (sp : Spaces) (at : ℕ) (cs : List ℕ) → Plain g sp → width_of (drawn_word g sp at cs) ≡ length cs * g
word_width g sp at cs h = omega (arith, pen-width 0 (drawn_word g sp at cs), word-pen 0 g sp at cs (inl h))

-- It ends with a print, so that it all stands before what is printed behind it.
print_by : (X ds es : List Drawn) → to_last_print es ≡ X → to_last_print ds ≡ ds → to_last_print (ds ++ es) ≡ ds ++ X
print_by [] ds es e w = print_none ds es e ∙ w ∙ sym (append-nil ds)
print_by (x ∷ X) ds es e w = print_more ds es (subst AnyDrawn (sym e) tt) ∙ ap (λ (xs : List Drawn). ds ++ xs) e

pub print_behind : (ds es : List Drawn) → to_last_print ds ≡ ds → to_last_print (ds ++ es) ≡ ds ++ to_last_print es
print_behind ds es w = print_by (to_last_print es) ds es refl w
