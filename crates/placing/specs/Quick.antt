-- A line of words with one space between any two, counted in characters: what its passes come to, however it is placed.
-- Assumes nothing.
use Rattle.std.specs.Prelude.{◌≡◌, false, List, ℕ, ◌+◌, ◌*◌, ◌/◌, ◌≤◌, Option, Some, None}
use Rattle.meaning.specs.Alignment.{plain_spaces}
use Rattle.meaning.specs.Line.{unmeasured, start_place}
use Rattle.meaning.specs.declared.settings.Settings.{Settings}
use Rattle.meaning.specs.declared.cursor.Place.{Place}
use Rattle.meaning.specs.declared.line.Measure.{Measure}
use Rattle.meaning.specs.declared.line.Placed.{Placed}
use Rattle.laws.specs.Measuring.{printed_at}
use Rattle.moves.specs.Fine.{FineSpaces}
use Rattle.steps.specs.Unrolled.{nothing_resumed}
use Rattle.placing.specs.Taken.{Taken}
use Rattle.placing.specs.Laying.{LineReady, passed_from, plainly, placed_by}
use Rattle.pairs.specs.PlainWords.{Found}
use Rattle.strides.specs.Strides.{Onward, Waits}
use Rattle.steps.specs.declared.step.Ended.{Ended}
use Rattle.strides.specs.declared.going.Waiting.{Waiting}
use Rattle.placing.specs.declared.quick.Counted.{Counted}
use Rattle.placing.specs.declared.quick.Quick.{Quick}

-- There is room for so many letters, and for so many spaces between their words, in a line that is so placed.
pub record Fair (s : Settings) (p : Placed) (letters gaps : ℕ) : Type 0 where
  pub spaces : FineSpaces p.spaces
  pub wide : s.glyph.0 ≤ p.spaces.width.0
  pub within : p.left.0 + letters * s.glyph.0 + gaps * p.spaces.width.0 + p.spaces.extra.0 ≤ s.width.0

-- Where a pass stands after such words. A gluing character uses up an extra pixel without moving the cursor.
pub record Stood (s : Settings) (p : Placed) (t : List ℕ) (at letters gaps to : ℕ) : Type 0 where
  pub place : Place
  pub measure : Measure
  pub onward : Onward s (start_place s p.left.0 p.spaces) t at nothing_resumed unmeasured place to measure
  pub filled : place.empty ≡ false
  pub edge : place.cursor.width.0 ≡ s.width.0
  pub each : place.spaces.width.0 ≡ p.spaces.width.0
  pub low : (letters + gaps) * s.glyph.0 ≤ place.cursor.position.0
  pub high : place.cursor.position.0 + place.spaces.extra.0 ≤ p.left.0 + letters * s.glyph.0 + gaps * p.spaces.width.0 + p.spaces.extra.0

-- Where the measuring pass stands in a line that is not empty.
abbrev pub plain_place : Settings → (position : ℕ) → Place
plain_place s position =
    record {
      cursor = record { width = s.width; position = record { 0 = position }; tab = s.tab; start = record { 0 = 0 } };
      spaces = plain_spaces s;
      empty = false;
    }

-- From one offset to another stand words, with one space between any two.
pub record Counts (s : Settings) (t : List ℕ) (at to columns spaces : ℕ) : Type 0 where
  pub letters : ℕ
  pub gaps : ℕ
  pub all : columns ≡ letters + gaps
  pub few : gaps ≤ spaces
  pub taken : Taken t at to columns
  pub plain : Onward s (start_place s 0 (plain_spaces s)) t at nothing_resumed unmeasured (plain_place s (columns * s.glyph.0)) to (printed_at (columns * s.glyph.0) spaces)
  pub placed : (p : Placed) → Fair s p letters gaps → Stood s p t at letters gaps to

-- Words that are counted while no more than so many characters fit.
pub record Counting (t : List ℕ) (at most to columns spaces : ℕ) : Type 0 where
  pub counts : (s : Settings) → LineReady s t at nothing_resumed → most ≡ s.width.0 / s.glyph.0 → Counts s t at to columns spaces
  pub fits : columns ≤ most

unfoldable pub counted_at : (end columns spaces : ℕ) → Waiting → Counted
counted_at end columns spaces waits = record { end = record { 0 = end }; columns = record { 0 = columns }; spaces = record { 0 = spaces }; waits = waits }

pub record CountedWords (s : Settings) (t : List ℕ) (at : ℕ) (c : Counted) : Type 0 where
  pub counts : Counts s t at c.end.0 c.columns.0 c.spaces.0
  pub within : c.columns.0 * s.glyph.0 ≤ s.width.0
  pub waits : Found c.waits.next.0 (Waits s (plain_place s (c.columns.0 * s.glyph.0)) t c.end.0 c.waits)

-- A pass that ends as another does, and looks no farther.
pub record SameEnd (e d : Ended) : Type 0 where
  pub ended : d.ended ≡ e.ended
  pub next : d.next ≡ e.next
  pub rest : d.rest ≡ e.rest
  pub dropped : d.dropped ≡ e.dropped
  pub reach : d.reach.0 ≤ e.reach.0

-- A line whose measuring pass ends so, and whose drawing pass ends as that does.
pub record DrawnAlike (s : Settings) (t : List ℕ) (at : ℕ) (e : Ended) : Type 0 where
  pub measured : e ≡ passed_from s t at nothing_resumed (plainly s)
  pub drawn : SameEnd e (passed_from s t at nothing_resumed (placed_by s e))

-- And that is known to have so many characters.
abbrev pub QuickLine : Settings → List ℕ → ℕ → Option Quick → Type 0
QuickLine s t at None = Unit {0}
QuickLine s t at (Some q) = DrawnAlike s t at q.ended × Taken t at q.ended.next.0 q.taken.0
