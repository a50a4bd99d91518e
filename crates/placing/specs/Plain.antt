-- A line that is found, of plain words or of others: what its entry is, and where the next line starts (rule 6, rule 12).
-- Assumes nothing.
use Rattle.std.specs.Prelude.{◌≡◌, List, ℕ, ◌+◌, ◌-◌, ◌*◌, ◌/◌, ◌≤◌, ◌<◌, eqb, length}
use Rattle.basis.specs.Choice.{pick}
use Rattle.meaning.specs.Line.{end_number}
use Rattle.meaning.specs.declared.settings.Settings.{Settings}
use Rattle.meaning.specs.declared.line.LineEnd.{LineEnd}
use Rattle.meaning.specs.declared.line.LineEnd.TheVariants.{LineBreak}
use Rattle.meaning.specs.declared.line.Entry.{Entry}
use Rattle.pairs.specs.Stretches.{PlainLine}
use Rattle.steps.specs.Unrolled.{nothing_resumed}
use Rattle.placing.specs.LineFrom.{LineAt, line_from}
use Rattle.placing.specs.Laying.{LineReady}

-- The left of a line that leaves so much room, where none of it is shared out among its spaces.
unfoldable pub left_of : (alignment room : ℕ) → ℕ
left_of alignment room = pick (eqb alignment 0) 0 (pick (eqb alignment 1) ((room + 1) / 2) room)

-- The entry of a line of so many characters, all of them drawn a glyph wide, that ends so.
unfoldable pub ended_entry : LineEnd → Settings → (start columns reach before : ℕ) → Entry
ended_entry ended s start columns reach before =
    record {
      start = record { 0 = start };
      rest = record { end = record { 0 = 0 }; count = record { 0 = 0 } };
      ending = end_number ended;
      left = record { 0 = left_of s.alignment (s.width.0 - columns * s.glyph.0) };
      space = s.glyph;
      extra = record { 0 = 0 };
      width = record { 0 = columns * s.glyph.0 };
      dropped = record { 0 = 0 };
      reach = record { 0 = reach };
      before = record { 0 = before };
    }

-- The entry of one that ends before a word.
abbrev pub plain_entry : Settings → (start columns reach before : ℕ) → Entry
plain_entry s start columns reach before = ended_entry LineBreak s start columns reach before

-- The line of so many characters that ends so, takes so many, and is followed by one at an offset.
abbrev pub ended_line_at : LineEnd → Settings → (at before columns next taken reach : ℕ) → LineAt
ended_line_at ended s at before columns next taken reach =
    record {
      entry = ended_entry ended s at columns reach before;
      ended = ended;
      next = record { 0 = next };
      chars = record { 0 = taken };
      rest = nothing_resumed;
    }

abbrev pub found_line_at : Settings → (at before columns next taken reach : ℕ) → LineAt
found_line_at s at before columns next taken reach = ended_line_at LineBreak s at before columns next taken reach

-- It is the line at an offset, whatever stands before it, by settings that justify no line and whose box has room for so many characters.
pub record EndedRow (ended : LineEnd) (t : List ℕ) (at most columns next taken reach : ℕ) : Type 0 where
  pub some : 1 ≤ columns
  pub few : columns ≤ most
  pub forward : at < next
  pub inside : next ≤ length t
  pub near : taken ≤ columns + 1
  pub laid : (s : Settings) → LineReady s t at nothing_resumed → most ≡ s.width.0 / s.glyph.0 → s.alignment ≤ 2 → (before : ℕ)
      → ended_line_at ended s at before columns next taken reach ≡ line_from s t at before nothing_resumed

-- One that ends before a word, or within one.
abbrev pub FoundRow : List ℕ → (at most columns next taken reach : ℕ) → Type 0
FoundRow t at most columns next taken reach = EndedRow LineBreak t at most columns next taken reach

-- One of plain words, which end at the space before the next line.
pub record PlainRow (t : List ℕ) (at most end reach : ℕ) : Type 0 where
  pub line : PlainLine t at most end reach
  pub row : FoundRow t at most (end - at) (end + 1) (end - at + 1) reach
