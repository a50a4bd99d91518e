-- Rule 10: lines are laid one after the other, each from where the one before ended, until one ends EndOfText.
-- Assumes nothing.
use Rattle.std.specs.Prelude.{ℕ, zero, suc, ◌+◌, List, [], ◌∷◌, ◌++◌, map, length, take, drop}
use Rattle.utf8.specs.Encoding.{size}
use Rattle.meaning.specs.LineIter.{Held, nothing_held}
use Rattle.meaning.specs.Line.{Line, lay_line, entry_at, events_at}
use Rattle.meaning.specs.declared.settings.Settings.{Settings}
use Rattle.meaning.specs.declared.line.LineEnd.{LineEnd}
use Rattle.meaning.specs.declared.line.LineEnd.TheVariants.{NewLine, CarriageReturn, EndOfText, LineBreak}
use Rattle.meaning.specs.declared.line.Entry.{Entry}
use Rattle.meaning.specs.declared.line.Event.{Event}

-- A line of a layout: its entry, its events, and how many characters it took.
pub record Row : Type 0 where
  pub entry : Entry
  pub events : List Event
  pub chars : ℕ

unfoldable pub row_at : (start before : ℕ) → Held → List ℕ → Line → Row
row_at start before h cs l =
    record { entry = entry_at start before h cs l; events = events_at start l.placed.left.0 l.drawn; chars = l.chars }

-- Nothing follows a line that ends the text.
unfoldable pub unless_ended : LineEnd → List Row → List Row
unless_ended EndOfText rows = []
unless_ended NewLine rows = rows
unless_ended CarriageReturn rows = rows
unless_ended LineBreak rows = rows

-- At most n lines of what a text has from an offset on, so many characters of it being before that.
unfoldable pub rows_by : ℕ → Settings → (start before : ℕ) → Held → List ℕ → List Row
rows_by zero s start before h cs = []
rows_by (suc n) s start before h cs =
    let l = lay_line s h cs in
    let more = rows_by n s (start + size (take l.chars cs)) (before + l.chars) l.held (drop l.chars cs) in
    row_at start before h cs l ∷ unless_ended l.ended more

-- Each line but the last takes a character (laws: `lines-take`), so there is at most one more than there are characters.
abbrev pub most_lines : List ℕ → ℕ
most_lines cs = suc (length cs)

unfoldable pub rows : Settings → List ℕ → List Row
rows s cs = rows_by (most_lines cs) s 0 0 nothing_held cs

abbrev pub entry_of_row : Row → Entry
entry_of_row r = r.entry

-- The layout of a text: its line entries, and its events, which stand line after line (rule 13).
unfoldable pub layout : Settings → List ℕ → List Entry
layout s cs = map entry_of_row (rows s cs)

unfoldable pub all_events : List Row → List Event
all_events [] = []
all_events (r ∷ rs) = r.events ++ all_events rs

unfoldable pub layout_events : Settings → List ℕ → List Event
layout_events s cs = all_events (rows s cs)
