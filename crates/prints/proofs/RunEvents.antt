-- The events of a space run and of one print, by what they added to the measure.
-- Assumes nothing.
use Prim.Native.Nat.{ℕ, ◌+◌, ◌≤◌, min}
use mathlib.Core.Path.{◌≡◌, sym, ap}
use mathlib.Core.Bool.{true, false}
use mathlib.Core.List.{List, [], ◌∷◌}
use native.Mathlib.Omega.{arith}
use borrow.Author.Tests.{eq-eqb, ne_eqb}
use lib.ListN.{length, take, drop, length-take, take-append-drop}
use lib.Seq.{take-take, take_all}
use Rattle.basis.specs.Choice.{pick}
use Rattle.basis.specs.Order.{by_le}
use Rattle.utf8.specs.Encoding.{size}
use Rattle.utf8.specs.Sizes.{size_append}
use Rattle.meaning.specs.Words.{drawn}
use Rattle.meaning.specs.declared.counts.Offset.{Offset}
use Rattle.meaning.specs.declared.cursor.Place.{Place}
use Rattle.meaning.specs.declared.line.EventKind.TheVariants.{Space, Printed}
use Rattle.meaning.specs.declared.line.Measure.{Measure}
use Rattle.parser.specs.Lexing.{chars_from, part_of}
use Rattle.parser.specs.declared.lexeme.Lexeme.{Lexeme}
use Rattle.parser.specs.declared.part.Part.{Part}
use Rattle.steps.specs.Lexed.{chars-within}
use Rattle.steps.specs.declared.step.Ended.{Ended}
use Rattle.steps.specs.declared.step.Stepped.{Stepped}
use Rattle.steps.specs.declared.step.Stepped.TheVariants.{Go, Stop}
use Rattle.ink.specs.Sheet.{Sheet, drawn_on}
use Rattle.prints.specs.TokenDrawn.{measure_of, Grows, run_drawn, print_drawn}
use Rattle.prints.specs.declared.grown.Grown.{Grown}

-- ---- what was added

module _ (m : Measure) (y : Stepped) where
  pub go-grows : (q : Place) (n : Measure) (o : Offset) → y ≡ Go q n o → Grows m (measure_of y) → Grows m n
  go-grows q n o e h = rw e at h

  pub stop-grows : (x : Ended) → y ≡ Stop x → Grows m (measure_of y) → Grows m x.measure
  stop-grows x e h = rw e at h

-- ---- a run

take_min : (a b : ℕ) (l : List ℕ) → take (min a b) l ≡ take a (take b l)
take_min a b l =
    by_le a b (λ h. let e : min a b ≡ a = omega arith in rw e (sym (take-take a b l h)))
    (λ h. let e : min a b ≡ b = omega arith in rw e (sym (take_all a (take b l) (omega (arith, length-take b l)))))

-- The first characters end in the text.
part-inside : (t : List ℕ) (at k : ℕ) → length t ≤ 65535 → at ≤ 65535 → at + size (take k (chars_from t at)) ≤ 65535
part-inside t at k h g =
    let cs = chars_from t at in
    omega (arith, chars-within t at, size_append (take k cs) (drop k cs), ap size (take-append-drop k cs))

pub part-within : (t : List ℕ) (at k : ℕ) (part : Part) → part ≡ part_of at k (chars_from t at) → length t ≤ 65535 → at ≤ 65535
    → part.end.0 ≤ 65535
unfolding part_of
part-within t at k part e h g = rw e (part-inside t at k h g)

module _ (s : Sheet) (t : List ℕ) (at : ℕ) (x : Lexeme) (g : Grown) where
  pub run-whole : g.whole ≡ true → drawn_on s (drawn Space at x.end.0 g.count.0 g.width.0 ∷ []) ≡ drawn_on s (run_drawn t at x g)
  unfolding run_drawn pick
  run-whole e = rw e

  pub run_none : g.whole ≡ false → g.count.0 ≡ 0 → s ≡ drawn_on s (run_drawn t at x g)
  unfolding run_drawn pick drawn_on
  run_none e f = rw (e, eq-eqb g.count.0 0 f)

  pub run-part : g.whole ≡ false → (g.count.0 ≡ 0 → ⊥) → (k : ℕ) (part : Part) → k ≡ min g.count.0 x.chars.0
      → part ≡ part_of at k (chars_from t at)
      → drawn_on s (drawn Space at part.end.0 g.count.0 g.width.0 ∷ []) ≡ drawn_on s (run_drawn t at x g)
  unfolding run_drawn pick part_of
  run-part e f k part m h =
      rw (e, ne_eqb g.count.0 0 f, h, m, take_min g.count.0 x.chars.0 (chars_from t at))

-- ---- one print

module _ (s : Sheet) (at to : ℕ) (g : Grown) where
  pub print_hides : g.width.0 ≡ 0 → s ≡ drawn_on s (print_drawn at to g)
  unfolding print_drawn pick drawn_on
  print_hides e = rw (eq-eqb g.width.0 0 e)

  pub print_shows : (g.width.0 ≡ 0 → ⊥) → drawn_on s (drawn Printed at to 0 g.width.0 ∷ []) ≡ drawn_on s (print_drawn at to g)
  unfolding print_drawn pick
  print_shows e = rw (ne_eqb g.width.0 0 e)
