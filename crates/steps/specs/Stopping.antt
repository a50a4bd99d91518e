-- What a word and a break leave: the measure after a print, the place after a word, and a line's end with nothing held.
-- Assumes nothing.
use Rattle.std.specs.Prelude.{ℕ, ◌+◌, ◌-◌, ◌*◌, false}
use Rattle.meaning.specs.Cursor.{advance}
use Rattle.meaning.specs.SpaceConfig.{spaces_width, spaces_after}
use Rattle.meaning.specs.declared.cursor.Spaces.{Spaces}
use Rattle.meaning.specs.declared.cursor.Place.{Place}
use Rattle.meaning.specs.declared.line.LineEnd.{LineEnd}
use Rattle.meaning.specs.declared.line.Measure.{Measure}
use Rattle.laws.specs.Measuring.{printed_at}
use Rattle.steps.specs.Unrolled.{nothing_resumed}
use Rattle.steps.specs.declared.step.Ended.{Ended}

-- After a printed word of n characters, k of which glue: each of these takes a space, every other a glyph.
unfoldable pub word_measure : (glyph : ℕ) → Spaces → Measure → (n k : ℕ) → Measure
word_measure g sp m n k = printed_at (m.pen.0 + (n - k) * g + spaces_width sp k) (m.spaces.0 + k)

-- The place after such a word.
unfoldable pub word_place : (glyph : ℕ) → Place → (n k : ℕ) → Place
word_place g p n k = record { cursor = advance p.cursor (n * g); spaces = spaces_after p.spaces k; empty = false }

-- A line that ends before an offset, with nothing held.
unfoldable pub ends_before : LineEnd → Measure → (next dropped reach : ℕ) → Ended
ends_before e m next dropped reach =
    record {
      ended = e;
      measure = m;
      next = record { 0 = next };
      rest = nothing_resumed;
      dropped = record { 0 = dropped };
      reach = record { 0 = reach };
    }
