-- Rule 9, rule 10, rule 12 and rule 13: a line resumes a rest, is measured, placed and drawn.
-- Assumes nothing.
use Rattle.std.specs.Prelude.{ℕ, zero, suc, ◌+◌, max, true, List, [], ◌∷◌, eqb, take, drop}
use Rattle.basis.specs.Choice.{pick}
use Rattle.utf8.specs.Encoding.{size}
use Rattle.meaning.specs.Tokens.{Tok, space, ender, tokens}
use Rattle.meaning.specs.Alignment.{plain_spaces, place}
use Rattle.meaning.specs.Words.{Drawn}
use Rattle.meaning.specs.LineIter.{Held, Ran, process}
use Rattle.meaning.specs.declared.settings.Settings.{Settings}
use Rattle.meaning.specs.declared.cursor.Spaces.{Spaces}
use Rattle.meaning.specs.declared.cursor.Place.{Place}
use Rattle.meaning.specs.declared.line.LineEnd.{LineEnd}
use Rattle.meaning.specs.declared.line.LineEnd.TheVariants.{NewLine, CarriageReturn, EndOfText, LineBreak}
use Rattle.meaning.specs.declared.line.EventKind.{EventKind}
use Rattle.meaning.specs.declared.line.EventKind.TheVariants.{Space, Printed, Move}
use Rattle.meaning.specs.declared.line.Measure.{Measure}
use Rattle.meaning.specs.declared.line.Placed.{Placed}
use Rattle.meaning.specs.declared.line.Rest.{Rest}
use Rattle.meaning.specs.declared.line.Entry.{Entry}
use Rattle.meaning.specs.declared.line.Event.{Event}

-- Nothing is drawn yet.
abbrev pub unmeasured : Measure
unmeasured = record { pen = record { 0 = 0 }; spaces = record { 0 = 0 }; width = record { 0 = 0 }; count = record { 0 = 0 } }

-- After one more event, the pen and the spaces counted being so. Only a print makes width and count theirs.
abbrev pub noted : EventKind → (pen spaces : ℕ) → Measure → Measure
noted Printed pen spaces m =
    record { pen = record { 0 = pen }; spaces = record { 0 = spaces }; width = record { 0 = pen }; count = record { 0 = spaces } }
noted Space pen spaces m = record { pen = record { 0 = pen }; spaces = record { 0 = spaces }; width = m.width; count = m.count }
noted Move pen spaces m = record { pen = record { 0 = pen }; spaces = record { 0 = spaces }; width = m.width; count = m.count }

unfoldable pub measured : Measure → List Drawn → Measure
measured m [] = m
measured m (d ∷ ds) = measured (noted d.kind (m.pen.0 + d.width) (m.spaces.0 + d.count) m) ds

-- Rule 9: the next line starts with what is held as one token.
unfoldable pub held_tokens : (chars count : ℕ) → List ℕ → List Tok
held_tokens zero n cs = tokens cs
held_tokens (suc k) n cs = space (take (suc k) cs) n (ender (drop (suc k) cs)) ∷ tokens (drop (suc k) cs)

unfoldable pub line_tokens : Held → List ℕ → List Tok
line_tokens h cs = held_tokens h.chars h.count cs

-- Where a pass starts: at an offset from the box's left, on an empty line.
unfoldable pub start_place : Settings → (left : ℕ) → Spaces → Place
start_place s left spaces =
    record {
      cursor = record { width = s.width; position = record { 0 = left }; tab = s.tab; start = record { 0 = left } };
      spaces = spaces;
      empty = true;
    }

-- A line as its text makes it, wherever that text stands: the reach is from the line's start on.
pub record Line : Type 0 where
  pub ended : LineEnd
  pub placed : Placed
  pub width : ℕ
  pub drawn : List Drawn
  pub chars : ℕ
  pub held : Held
  pub dropped : ℕ
  pub reach : ℕ

-- The second pass draws where the first, the measure, placed the line. Its end, characters and held rest are the line's.
abbrev pub drawn_line : Placed → (width reach : ℕ) → Ran → Line
drawn_line placed width reach d =
    record {
      ended = d.ended;
      placed = placed;
      width = width;
      drawn = d.drawn;
      chars = d.chars;
      held = d.held;
      dropped = d.dropped;
      reach = max reach d.reach;
    }

-- The measuring pass: plain spaces, from the box's left.
unfoldable pub measuring : Settings → List Tok → Ran
measuring s ts = process s (start_place s 0 (plain_spaces s)) 0 ts

-- Rule 6 on what it found.
unfoldable pub placing : Settings → Ran → Placed
placing s r =
    let m = measured unmeasured r.drawn in
    place s r.ended m.width.0 m.count.0

unfoldable pub line_of : Settings → List Tok → Line
line_of s ts =
    let r = measuring s ts in
    let p = placing s r in
    drawn_line p (measured unmeasured r.drawn).width.0 r.reach (process s (start_place s p.left.0 p.spaces) 0 ts)

-- The line that a text begins with, after what was held before it.
unfoldable pub lay_line : Settings → Held → List ℕ → Line
lay_line s h cs = line_of s (line_tokens h cs)

-- Rule 12: end types.
abbrev pub end_number : LineEnd → ℕ
end_number NewLine = 0
end_number CarriageReturn = 1
end_number EndOfText = 2
end_number LineBreak = 3

-- Where what is held ends, in a text whose line starts at an offset. 0 and 0 if nothing is held.
unfoldable pub rest_of : (start : ℕ) → Held → List ℕ → Rest
rest_of start h cs =
    pick (eqb h.chars 0) (record { end = record { 0 = 0 }; count = record { 0 = 0 } })
    (record { end = record { 0 = start + size (take h.chars cs) }; count = record { 0 = h.count } })

-- Rule 12: the eleven numbers of a line that starts at an offset, with so many characters before it.
unfoldable pub entry_at : (start before : ℕ) → Held → List ℕ → Line → Entry
entry_at start before h cs l =
    record {
      start = record { 0 = start };
      rest = rest_of start h cs;
      ending = end_number l.ended;
      left = l.placed.left;
      space = l.placed.spaces.width;
      extra = l.placed.spaces.extra;
      width = record { 0 = l.width };
      dropped = record { 0 = l.dropped };
      reach = record { 0 = start + l.reach };
      before = record { 0 = before };
    }

-- Rule 13: events with their byte ranges in the text, and the pen before each.
unfoldable pub events_at : (start pen : ℕ) → List Drawn → List Event
events_at start pen [] = []
events_at start pen (d ∷ ds) =
    record {
      kind = d.kind;
      start = record { 0 = start + d.from };
      end = record { 0 = start + d.to };
      count = record { 0 = d.count };
      width = record { 0 = d.width };
      x = record { 0 = pen };
    }
    ∷ events_at start (pen + d.width) ds
