-- What is drawn up to the last print, by which a line's width and its spaces are measured, and the prints alone (rule 10).
-- Assumes nothing.
use Rattle.std.specs.Prelude.{ℕ, ◌+◌, ◌≡◌, refl}
use Rattle.std.proofs.Common.{sym, ap, ◌∙◌, arith}
use mathlib.Core.List.{List, [], ◌∷◌, ◌++◌}
use Rattle.meaning.specs.Words.{Drawn}
use Rattle.meaning.specs.Line.{unmeasured, noted, measured, events_at}
use Rattle.meaning.specs.declared.line.EventKind.{EventKind}
use Rattle.meaning.specs.declared.line.EventKind.TheVariants.{Space, Printed, Move}
use Rattle.meaning.specs.declared.line.Event.{Event}
use Rattle.meaning.specs.declared.line.Measure.{Measure}
use Rattle.laws.specs.Pens.{noted-pen}

-- ---- up to the last print

-- What stands before a print, if one comes.
unfoldable pub if_more : Drawn → List Drawn → List Drawn
if_more d [] = []
if_more d (x ∷ xs) = d ∷ x ∷ xs

abbrev pub kept_if : EventKind → Drawn → List Drawn → List Drawn
kept_if Printed d more = d ∷ more
kept_if Space d more = if_more d more
kept_if Move d more = if_more d more

unfoldable pub to_last_print : List Drawn → List Drawn
to_last_print [] = []
to_last_print (d ∷ ds) = kept_if d.kind d (to_last_print ds)

-- ---- what holds of all that is drawn

-- It holds of the kind, the count and the width of each.
abbrev pub AllOf : (EventKind → (count width : ℕ) → Type 0) → List Drawn → Type 0
AllOf P [] = Unit {0}
AllOf P (d ∷ ds) = P d.kind d.count d.width × AllOf P ds

module _ (P : EventKind → ℕ → ℕ → Type 0) where
  all-kept : (k : EventKind) (d : Drawn) (xs : List Drawn) → P d.kind d.count d.width → AllOf P xs → AllOf P (kept_if k d xs)
  unfolding if_more
  all-kept Printed d xs f g = (f, g)
  all-kept Space d [] f g = tt
  all-kept Space d (x ∷ xs) f g = (f, g)
  all-kept Move d [] f g = tt
  all-kept Move d (x ∷ xs) f g = (f, g)

  -- Up to the last print, where it holds of what is drawn first, and up to the last print of what is drawn then.
  pub all_append : (ds es : List Drawn) → AllOf P ds → AllOf P (to_last_print es) → AllOf P (to_last_print (ds ++ es))
  unfolding to_last_print
  all_append [] es f g = g
  all_append (d ∷ ds) es f g = all-kept d.kind d (to_last_print (ds ++ es)) f.0 (all_append ds es f.1 g)

  pub all_first : (ds : List Drawn) → AllOf P ds → AllOf P (to_last_print ds)
  unfolding to_last_print
  all_first [] f = tt
  all_first (d ∷ ds) f = all-kept d.kind d (to_last_print ds) f.0 (all_first ds f.1)

-- ---- sums over what is drawn

unfoldable pub width_of : List Drawn → ℕ
width_of [] = 0
width_of (d ∷ ds) = d.width + width_of ds

unfoldable pub counted_in : List Drawn → ℕ
counted_in [] = 0
counted_in (d ∷ ds) = d.count + counted_in ds

pub counted_append : (ds es : List Drawn) → counted_in (ds ++ es) ≡ counted_in ds + counted_in es
unfolding counted_in
counted_append [] es = omega arith
counted_append (d ∷ ds) es = omega (arith, counted_append ds es)

-- ---- the measure is of what stands up to the last print

abbrev width_by : Measure → List Drawn → ℕ
width_by m [] = m.width.0
width_by m (d ∷ ds) = m.pen.0 + width_of (d ∷ ds)

abbrev count_where : Measure → List Drawn → ℕ
count_where m [] = m.count.0
count_where m (d ∷ ds) = m.spaces.0 + counted_in (d ∷ ds)

abbrev noted_by : EventKind → Drawn → Measure → Measure
noted_by k d m = noted k (m.pen.0 + d.width) (m.spaces.0 + d.count) m

width-step : (k : EventKind) (d : Drawn) (xs : List Drawn) (m : Measure) → width_by (noted_by k d m) xs ≡ width_by m (kept_if k d xs)
unfolding width_of if_more
width-step Printed d [] m = omega arith
width-step Printed d (x ∷ xs) m = omega arith
width-step Space d [] m = refl
width-step Space d (x ∷ xs) m = omega arith
width-step Move d [] m = refl
width-step Move d (x ∷ xs) m = omega arith

count-step : (k : EventKind) (d : Drawn) (xs : List Drawn) (m : Measure) → count_where (noted_by k d m) xs ≡ count_where m (kept_if k d xs)
unfolding counted_in if_more
count-step Printed d [] m = omega arith
count-step Printed d (x ∷ xs) m = omega arith
count-step Space d [] m = refl
count-step Space d (x ∷ xs) m = omega arith
count-step Move d [] m = refl
count-step Move d (x ∷ xs) m = omega arith

width-by : (m : Measure) (ds : List Drawn) → (measured m ds).width.0 ≡ width_by m (to_last_print ds)
unfolding measured to_last_print
width-by m [] = refl
width-by m (d ∷ ds) = width-by (noted_by d.kind d m) ds ∙ width-step d.kind d (to_last_print ds) m

count_by : (m : Measure) (ds : List Drawn) → (measured m ds).count.0 ≡ count_where m (to_last_print ds)
unfolding measured to_last_print
count_by m [] = refl
count_by m (d ∷ ds) = count_by (noted_by d.kind d m) ds ∙ count-step d.kind d (to_last_print ds) m

from-nothing-width : (xs : List Drawn) → width_by unmeasured xs ≡ width_of xs
unfolding width_of
from-nothing-width [] = refl
from-nothing-width (x ∷ xs) = omega arith

from-nothing-count : (xs : List Drawn) → count_where unmeasured xs ≡ counted_in xs
unfolding counted_in
from-nothing-count [] = refl
from-nothing-count (x ∷ xs) = omega arith

pub measured-width : (ds : List Drawn) → (measured unmeasured ds).width.0 ≡ width_of (to_last_print ds)
measured-width ds = width-by unmeasured ds ∙ from-nothing-width (to_last_print ds)

pub measured-count : (ds : List Drawn) → (measured unmeasured ds).count.0 ≡ counted_in (to_last_print ds)
measured-count ds = count_by unmeasured ds ∙ from-nothing-count (to_last_print ds)

-- ---- where the pen stands after the last printed event (rule 13)

abbrev pen_if : EventKind → (end before : ℕ) → ℕ
pen_if Printed end before = end
pen_if Space end before = before
pen_if Move end before = before

-- The end of the last print among events, or a place before them where none is printed.
unfoldable pub printed_end : ℕ → List Event → ℕ
printed_end x [] = x
printed_end x (e ∷ es) = printed_end (pen_if e.kind (e.x.0 + e.width.0) x) es

noted-width : (k : EventKind) (pen n : ℕ) (m : Measure) → (noted k pen n m).width.0 ≡ pen_if k pen m.width.0
noted-width Printed pen n m = refl
noted-width Space pen n m = refl
noted-width Move pen n m = refl

end_by : (start : ℕ) (m : Measure) (ds : List Drawn) → printed_end m.width.0 (events_at start m.pen.0 ds) ≡ (measured m ds).width.0
unfolding printed_end events_at measured
end_by start m [] = refl
end_by start m (d ∷ ds) =
    let pen = m.pen.0 + d.width in
    let e = noted-width d.kind pen (m.spaces.0 + d.count) m in
    let f = noted-pen d.kind pen (m.spaces.0 + d.count) m in
    ap (λ (x : ℕ). printed_end x (events_at start pen ds)) (sym e)
    ∙ ap (λ (x : ℕ). printed_end (noted_by d.kind d m).width.0 (events_at start x ds)) (sym f)
    ∙ end_by start (noted_by d.kind d m) ds

pub events-end : (start : ℕ) (ds : List Drawn) → printed_end 0 (events_at start 0 ds) ≡ width_of (to_last_print ds)
events-end start ds = end_by start unmeasured ds ∙ measured-width ds

-- ---- the prints

abbrev pub print_if : EventKind → Drawn → List Drawn → List Drawn
print_if Printed d more = d ∷ more
print_if Space d more = more
print_if Move d more = more

unfoldable pub prints : List Drawn → List Drawn
prints [] = []
prints (d ∷ ds) = print_if d.kind d (prints ds)

print_kept : (k : EventKind) (d : Drawn) (xs : List Drawn) → d.kind ≡ k → prints (kept_if k d xs) ≡ print_if k d (prints xs)
unfolding prints if_more
print_kept Printed d xs e = rw e
print_kept Space d [] e = refl
print_kept Space d (x ∷ xs) e = rw e
print_kept Move d [] e = refl
print_kept Move d (x ∷ xs) e = rw e

-- All of them stand up to the last.
pub prints-kept : (ds : List Drawn) → prints (to_last_print ds) ≡ prints ds
unfolding prints to_last_print
prints-kept [] = refl
prints-kept (d ∷ ds) =
    print_kept d.kind d (to_last_print ds) refl ∙ ap (λ (xs : List Drawn). print_if d.kind d xs) (prints-kept ds)
