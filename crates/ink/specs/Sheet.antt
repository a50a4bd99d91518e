-- A lent event buffer and the pen that draws into it, one thing after the other.
-- Assumes nothing.
use Rattle.std.specs.Prelude.{ℕ, suc, ◌+◌, ◌≤◌, ◌≡◌, refl, List, [], ◌∷◌, ◌++◌, length}
use Rattle.std.proofs.Common.{ap, ◌∙◌, add-zero, zero-add, arith}
use Rattle.meaning.specs.Table.{of_event}
use Rattle.meaning.specs.Words.{Drawn}
use Rattle.meaning.specs.Line.{noted, measured, events_at}
use Rattle.meaning.specs.declared.line.Event.{Event}
use Rattle.meaning.specs.declared.line.EventKind.{EventKind}
use Rattle.meaning.specs.declared.line.EventKind.TheVariants.{Space, Printed, Move}
use Rattle.meaning.specs.declared.line.Measure.{Measure}
use Rattle.table.specs.Numbers.{put_if_room, put_events}
use Rattle.ink.specs.declared.pen.Pen.{Pen}

-- The buffer's numbers, and the pen.
pub record Sheet : Type 0 where
  pub numbers : List ℕ
  pub pen : Pen

abbrev pub sheet : List ℕ → Pen → Sheet
sheet t p = record { numbers = t; pen = p }

-- The event of a drawn thing, the pen standing at x before it.
abbrev pub event_of : (x : ℕ) → Drawn → Event
event_of x d =
    record {
      kind = d.kind;
      start = record { 0 = d.from };
      end = record { 0 = d.to };
      count = record { 0 = d.count };
      width = record { 0 = d.width };
      x = record { 0 = x };
    }

-- The pen after n more events, and so much further on.
abbrev pub pen_on : Pen → (n width : ℕ) → Pen
pen_on p n width = record { next = p.next + n; x = record { 0 = p.x.0 + width } }

-- One more event, put if the buffer holds it.
abbrev pub one_on : Sheet → Drawn → Sheet
one_on s d =
    sheet (put_if_room 6 s.numbers s.pen.next (of_event (event_of s.pen.x.0 d))) (pen_on s.pen 1 d.width)

unfoldable pub drawn_on : Sheet → List Drawn → Sheet
drawn_on s [] = s
drawn_on s (d ∷ ds) = drawn_on (one_on s d) ds

-- ---- one list after another

pub on_append : (s : Sheet) (ds es : List Drawn) → drawn_on s (ds ++ es) ≡ drawn_on (drawn_on s ds) es
unfolding drawn_on
on_append s [] es = refl
on_append s (d ∷ ds) es = on_append (one_on s d) ds es

pub on_none : (s : Sheet) → drawn_on s [] ≡ s
unfolding drawn_on
on_none s = refl

-- How far the pen moves.
unfoldable pub widths : List Drawn → ℕ
widths [] = 0
widths (d ∷ ds) = d.width + widths ds

pub measured-pen : (m : Measure) (ds : List Drawn) → (measured m ds).pen.0 ≡ m.pen.0 + widths ds
unfolding measured widths
measured-pen m [] = omega arith
measured-pen m (d ∷ ds) =
    let n = noted d.kind (m.pen.0 + d.width) (m.spaces.0 + d.count) m in
    omega (arith, measured-pen n ds, noted-pen d.kind (m.pen.0 + d.width) (m.spaces.0 + d.count) m)
  where
    noted-pen : (k : EventKind) (pen spaces : ℕ) (m : Measure) → (noted k pen spaces m).pen.0 ≡ pen
    noted-pen Space pen spaces m = refl
    noted-pen Printed pen spaces m = refl
    noted-pen Move pen spaces m = refl

-- The spaces counted do not become fewer.
pub measured-spaces : (m : Measure) (ds : List Drawn) → m.spaces.0 ≤ (measured m ds).spaces.0
unfolding measured
measured-spaces m [] = omega arith
measured-spaces m (d ∷ ds) =
    let n = noted d.kind (m.pen.0 + d.width) (m.spaces.0 + d.count) m in
    omega (arith, measured-spaces n ds, noted-spaces d.kind (m.pen.0 + d.width) (m.spaces.0 + d.count) m)
  where
    noted-spaces : (k : EventKind) (pen spaces : ℕ) (m : Measure) → (noted k pen spaces m).spaces.0 ≡ spaces
    noted-spaces Space pen spaces m = refl
    noted-spaces Printed pen spaces m = refl
    noted-spaces Move pen spaces m = refl

pub put_append : (t : List ℕ) (k : ℕ) (xs ys : List Event) → put_events t k (xs ++ ys) ≡ put_events (put_events t k xs) (k + length xs) ys
unfolding put_events
put_append t k [] ys = rw (add-zero k)
put_append t k (x ∷ xs) ys =
    let e : k + 1 + length xs ≡ k + suc (length xs) = omega arith in
    rw (put_append (put_if_room 6 t k (of_event x)) (k + 1) xs ys, e)

-- ---- the whole

-- Events put one by one are all events put.
pub on-is : (t : List ℕ) (p : Pen) (ds : List Drawn)
    → drawn_on (sheet t p) ds ≡ sheet (put_events t p.next (events_at 0 p.x.0 ds)) (pen_on p (length ds) (widths ds))
unfolding drawn_on put_events events_at widths
on-is t p [] = rw (add-zero p.next, add-zero p.x.0)
on-is t p (d ∷ ds) =
    let e : p.next + 1 + length ds ≡ p.next + suc (length ds) = omega arith in
    let f : p.x.0 + d.width + widths ds ≡ p.x.0 + (d.width + widths ds) = omega arith in
    on-is (put_if_room 6 t p.next (of_event (event_of p.x.0 d))) (pen_on p 1 d.width) ds ∙ rw (e, f, zero-add d.from, zero-add d.to)

-- Where the pen is after it.
pub pen-after : (t u : List ℕ) (p r : Pen) (ds : List Drawn) → sheet u r ≡ drawn_on (sheet t p) ds
    → (r.next ≡ p.next + length ds) × (r.x.0 ≡ p.x.0 + widths ds)
pen-after t u p r ds e =
    let f = e ∙ on-is t p ds in
    (ap (λ (s : Sheet). s.pen.next) f, ap (λ (s : Sheet). s.pen.x.0) f)

pub pen-one : (t u : List ℕ) (p r : Pen) (d : Drawn) → sheet u r ≡ drawn_on (sheet t p) (d ∷ [])
    → (r.next ≡ p.next + 1) × (r.x.0 ≡ p.x.0 + d.width)
unfolding drawn_on
pen-one t u p r d e = (ap (λ (s : Sheet). s.pen.next) e, ap (λ (s : Sheet). s.pen.x.0) e)
