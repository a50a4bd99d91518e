-- A line of plain words that are drawn with plain spaces: where its drawing stands after each word.
-- Assumes nothing.
use Rattle.std.specs.Prelude.{ℕ, ◌+◌, ◌-◌, ◌*◌, ◌/◌, ◌≤◌, ◌≡◌, false, List}
use Rattle.meaning.specs.Alignment.{plain_spaces}
use Rattle.meaning.specs.Line.{start_place}
use Rattle.meaning.specs.declared.settings.Settings.{Settings}
use Rattle.meaning.specs.declared.cursor.Place.{Place}
use Rattle.pairs.specs.Stretches.{PlainLine}
use Rattle.steps.specs.Unrolled.{nothing_resumed}
use Rattle.ink.specs.declared.pen.Pen.{Pen}
use Rattle.drawing.specs.DrawingOn.{Drew}

-- ---- places

-- Where a line begins that is placed at a left with plain spaces, and where it stands after so many columns of letters and spaces.
abbrev pub plain_start : Settings → (left : ℕ) → Place
plain_start s left = start_place s left (plain_spaces s)

unfoldable pub plain_place : Settings → (left columns : ℕ) → Place
plain_place s left n =
    record {
      cursor = record { width = s.width; position = record { 0 = left + n * s.glyph.0 }; tab = s.tab; start = record { 0 = left } };
      spaces = plain_spaces s;
      empty = false;
    }

-- The words of a line, which from that left on stay in the box, before a word that waits.
pub record PlainToDraw (s : Settings) (t : List ℕ) (at end left : ℕ) : Type 0 where
  pub reach : ℕ
  pub line : PlainLine t at (s.width.0 / s.glyph.0) end reach
  pub fits : left + (end - at) * s.glyph.0 ≤ s.width.0

-- ---- the drawing

-- From a place and a pen on, all up to a space is drawn of the line from `at` on, and the pen stands where the cursor does.
pub record DrewPlain (s : Settings) (t : List ℕ) (left at : ℕ) (ev : List ℕ) (p : Place) (from : ℕ) (o : Pen) (u : List ℕ) (to : ℕ) (v : Pen) : Type 0 where
  pub onward : Drew s t nothing_resumed ev p from o u (plain_place s left (to - at)) to v
  pub pen : v.x.0 ≡ left + (to - at) * s.glyph.0
