-- What one token of a line draws, and how it shows in what its step has measured.
-- Assumes nothing.
use Rattle.std.specs.Prelude.{ℕ, ◌+◌, ◌-◌, ◌*◌, ◌≤◌, ◌≡◌, Bool, true, false, List, [], ◌∷◌, eqb, length, take}
use Rattle.basis.specs.Choice.{pick}
use Rattle.utf8.specs.Encoding.{size}
use Rattle.meaning.specs.Tokens.{tokens}
use Rattle.meaning.specs.Words.{Drawn, drawn}
use Rattle.meaning.specs.LineIter.{Step, go, stop, step}
use Rattle.meaning.specs.declared.settings.Settings.{Settings}
use Rattle.meaning.specs.declared.cursor.Place.{Place}
use Rattle.meaning.specs.declared.line.EventKind.TheVariants.{Space, Printed}
use Rattle.meaning.specs.declared.line.Measure.{Measure}
use Rattle.parser.specs.Lexing.{chars_from, part_of}
use Rattle.parser.specs.declared.lexeme.Lexeme.{Lexeme}
use Rattle.parser.specs.declared.part.Part.{Part}
use Rattle.moves.specs.Fine.{FineSettings, FinePlace}
use Rattle.steps.specs.Stepping.{tok_of}
use Rattle.steps.specs.Ready.{Standing, Ready, step_from}
use Rattle.steps.specs.declared.step.Stepped.{Stepped}
use Rattle.steps.specs.declared.step.Stepped.TheVariants.{Go, Stop}
use Rattle.ink.specs.declared.pen.Pen.{Pen}
use Rattle.prints.specs.declared.grown.Grown.{Grown}

-- What a step draws.
abbrev pub drawn_of : Step → List Drawn
drawn_of (go q ds r) = ds
drawn_of (stop e ds k h d r) = ds

-- What the token draws that is read as x at an offset.
unfoldable pub tok_drawn : Settings → Place → List ℕ → (at : ℕ) → Lexeme → List Drawn
tok_drawn s p t at x = drawn_of (step s p at (tok_of t at x) (tokens (chars_from t x.end.0)))

-- ---- what a running step measured

abbrev pub measure_of : Stepped → Measure
measure_of (Go q n o) = n
measure_of (Stop e) = e.measure

abbrev pub goes_on : Stepped → Bool
goes_on (Go q n o) = true
goes_on (Stop e) = false

-- By how much it grew.
unfoldable pub grown_by : Measure → Stepped → Grown
grown_by m y =
    record {
      whole = goes_on y;
      count = record { 0 = (measure_of y).spaces.0 - m.spaces.0 };
      width = record { 0 = (measure_of y).pen.0 - m.pen.0 };
    }

-- It grew, and by no more than a text allows.
pub record Grows (m n : Measure) : Type 0 where
  pub pen : m.pen.0 ≤ n.pen.0
  pub spaces : m.spaces.0 ≤ n.spaces.0
  pub narrow : n.pen.0 ≤ m.pen.0 + 8192 * 65535

-- A space run is drawn whole, or as many of its characters as were counted, or not at all.
unfoldable pub run_drawn : List ℕ → (at : ℕ) → Lexeme → Grown → List Drawn
run_drawn t at x g =
    let part = at + size (take g.count.0 (take x.chars.0 (chars_from t at))) in
    pick g.whole (drawn Space at x.end.0 g.count.0 g.width.0 ∷ [])
    (pick (eqb g.count.0 0) [] (drawn Space at part g.count.0 g.width.0 ∷ []))

-- A hyphen is one print, if it added a width.
unfoldable pub print_drawn : (at to : ℕ) → Grown → List Drawn
print_drawn at to g = pick (eqb g.width.0 0) [] (drawn Printed at to 0 g.width.0 ∷ [])

-- The first n characters from an offset on, of which there are as many.
abbrev pub PartIs : List ℕ → (at n : ℕ) → Part → Type 0
PartIs t at n part = (part ≡ part_of at n (chars_from t at)) × (length (take n (chars_from t at)) ≡ n)

-- ---- what drawing a token takes for granted

pub record PenRoom (pen : Pen) : Type 0 where
  pub few : pen.next ≤ 700000000
  pub narrow : pen.x.0 ≤ 700000000

pub record DrawReady (s : Settings) (p : Place) (t : List ℕ) (at : ℕ) (x : Lexeme) (o : Pen) : Type 0 where
  pub settings : FineSettings s
  pub place : FinePlace p
  pub short : length t ≤ 65535
  pub stands : Standing t at x
  pub pen : PenRoom o

-- With what its running step answered, after what was measured before it.
pub record TokenReady (s : Settings) (p : Place) (t : List ℕ) (at : ℕ) (x : Lexeme) (m : Measure) (y : Stepped) (o : Pen) : Type 0 where
  pub ready : Ready s p t at x m
  pub stepped : y ≡ step_from s p t at x m
  pub pen : PenRoom o
