-- The events of a text's lines from a stand on, and how those of one line come off the front of them.
-- Assumes nothing.
use Rattle.std.specs.Prelude.{ℕ, suc, ◌+◌, ◌≤◌, ◌≡◌, refl, true, false, take, drop}
use Rattle.std.proofs.Common.{arith, add-zero, zero-add, ◌∙◌, length-append, take-append-drop}
use Rattle.std.proofs.Math.Path.{sym, ap}
use mathlib.Core.List.{List, [], ◌∷◌, ◌++◌, append-nil}
use Rattle.std.proofs.Math.ListN.{length}
use Rattle.utf8.specs.Encoding.{size}
use Rattle.utf8.specs.Sizes.{size_append}
use Rattle.meaning.specs.LineIter.{Held, nothing_held, process}
use Rattle.meaning.specs.Words.{Drawn}
use Rattle.meaning.specs.Line.{held_tokens, line_tokens, start_place, measuring, placing, line_of, lay_line, entry_at, events_at}
use Rattle.meaning.specs.Layout.{Row, row_at, rows, all_events}
use Rattle.meaning.specs.Calls.{text_rows, text_events}
use Rattle.meaning.specs.declared.settings.Settings.{Settings}
use Rattle.meaning.specs.declared.cursor.Place.{Place}
use Rattle.meaning.specs.declared.line.Entry.{Entry}
use Rattle.meaning.specs.declared.line.Event.{Event}
use Rattle.laws.specs.Shift.{pass-events}
use Rattle.laws.specs.PassBounds.{size-take}
use Rattle.laws.specs.RowInduction.{FitsIn, each_row}
use Rattle.parser.specs.Lexing.{chars_from}
use Rattle.steps.specs.Lexed.{chars-within}
use Rattle.steps.specs.Knowing.{KnownFits}
use Rattle.steps.specs.Unrolled.{nothing_resumed}
use Rattle.placing.specs.LineFrom.{line_at_of, line_from}
use Rattle.drawing.specs.Drawn.{drawn_from, events_from}
use Rattle.drawing.specs.PassDrawn.{DrawRoom}
use Rattle.drawing.specs.DrawnBounds.{line-few}
use Rattle.rows.specs.Standing.{StandReady, laid_row, entry-is}
use Rattle.stands.specs.Stands.{StandsAt, text_front}
use Rattle.rows.specs.RowsFrom.{rows_from, row_here, front-rows, last_row, more_rows}
use Rattle.stands.specs.declared.stand.Stand.{Stand}
use Rattle.stands.specs.declared.row.LaidRow.{LaidRow}

-- The events of a text, and those of its lines from a stand on.
unfoldable pub events_of : Settings → List ℕ → List Event
events_of s t = all_events (rows s (chars_from t 0))

unfoldable pub events_after : Settings → List ℕ → Stand → List Event
events_after s t p = all_events (rows_from s t 0 p)

-- The events that the definitions of the call speak of.
pub events-are : (s : Settings) (t : List ℕ) → events_of s t ≡ text_events s t
unfolding events_of text_events text_rows chars_from
events-are s t = refl

pub all-events : (s : Settings) (t : List ℕ) (p : Stand) → StandsAt t text_front 0 nothing_resumed p → events_after s t p ≡ events_of s t
unfolding events_of events_after rows
all-events s t p f = ap all_events (front-rows s t 0 0 nothing_resumed p f)

-- ---- one line, from its entry

-- Where a line with this entry is drawn from, and the events of such a line at a stand.
unfoldable pub place_in : Settings → Entry → Place
place_in s e = start_place s e.left.0 (record { width = e.space; extra = e.extra })

unfoldable pub line_events : Settings → List ℕ → Stand → Entry → List Event
line_events s t p e = events_from s (place_in s e) t p.at.0 p.rest.chars.0 p.rest.count.0 e.left.0

-- What drawing it takes for granted, with so many events before it.
pub record DrawReady (s : Settings) (t : List ℕ) (p : Stand) (e : Entry) (k : ℕ) : Type 0 where
  pub room : DrawRoom s (place_in s e) t p.at.0 p.rest e.left.0 k
  pub known : KnownFits t p.known

-- A pass that runs at its offset has the events of the pass from the front.
from_start : (s : Settings) (p : Place) (t : List ℕ) (at chars count x : ℕ)
    → events_from s p t at chars count x ≡ events_at at x (process s p 0 (held_tokens chars count (chars_from t at))).drawn
unfolding events_from drawn_from
from_start s p t at chars count x =
    let ts = held_tokens chars count (chars_from t at) in
    ap (λ (i : ℕ). events_at 0 x (process s p i ts).drawn) (sym (add-zero at)) ∙ pass-events s p at 0 ts 0 x
    ∙ ap (λ (i : ℕ). events_at i x (process s p 0 ts).drawn) (zero-add at)

events-length : (at x : ℕ) (ds : List Drawn) → length (events_at at x ds) ≡ length ds
unfolding events_at
events-length at x [] = refl
events-length at x (d ∷ ds) = omega (arith, events-length at (x + d.width) ds)

-- As the running call draws them, from a place that it made of the entry.
module _ (s : Settings) (t : List ℕ) (p : Stand) (e : Entry) (start : Place)
    (is : start ≡ start_place s e.left.0 (record { width = e.space; extra = e.extra }))
  where
    pub place-room : (k : ℕ) → DrawRoom s (place_in s e) t p.at.0 p.rest e.left.0 k → DrawRoom s start t p.at.0 p.rest e.left.0 k
    unfolding place_in
    place-room k h = rw is h

    pub place-events : events_from s start t p.at.0 p.rest.chars.0 p.rest.count.0 e.left.0 ≡ line_events s t p e
    unfolding line_events place_in
    place-events = rw is

    pub place-length : length (drawn_from s start t p.at.0 p.rest.chars.0 p.rest.count.0) ≡ length (line_events s t p e)
    unfolding events_from
    place-length =
        sym (events-length 0 e.left.0 (drawn_from s start t p.at.0 p.rest.chars.0 p.rest.count.0)) ∙ ap length place-events

module _ (s : Settings) (t : List ℕ) (p : Stand) (c : StandReady s t p) (x : LaidRow) (is : x ≡ laid_row s t p) where
  -- They are those of its row.
  row-events : line_events s t p x.entry ≡ (row_here s t 0 p).events
  unfolding line_events place_in line_from line_at_of entry_at row_here row_at lay_line line_of line_tokens
  row-events =
      let at = p.at.0 in
      let r = p.rest in
      let q = placing s (measuring s (held_tokens r.chars.0 r.count.0 (chars_from t at))) in
      let start = start_place s q.left.0 q.spaces in
      let ds = (process s start 0 (held_tokens r.chars.0 r.count.0 (chars_from t at))).drawn in
      ap (line_events s t p) (entry-is s t p c x is)
      ∙ from_start s start t at r.chars.0 r.count.0 q.left.0
      ∙ ap (λ (n : ℕ). events_at n q.left.0 ds) (sym (zero-add at))

  -- The last line's events.
  pub one-drawn : x.last ≡ true → events_after s t p ≡ line_events s t p x.entry
  unfolding events_after all_events
  one-drawn h = ap all_events (last_row s t 0 p c x is h) ∙ append-nil _ ∙ sym row-events

  -- A line's events, and those of the lines from the next stand on.
  pub more-drawn : (q : Stand) → StandsAt t x.next (p.before.0 + x.chars.0) x.rest q → x.last ≡ false
      → events_after s t p ≡ line_events s t p x.entry ++ events_after s t q
  unfolding events_after all_events
  more-drawn q n h =
      ap all_events (more_rows s t 0 p c x is q n h) ∙ ap (λ (es : List Event). es ++ all_events (rows_from s t 0 q)) (sym row-events)

-- ---- all lines

-- A row has no more events than its line has bytes.
row-few : (s : Settings) (start before : ℕ) (h : Held) (cs : List ℕ) → FitsIn cs h
    → length (row_at start before h cs (lay_line s h cs)).events ≤ size (take (lay_line s h cs).chars cs)
unfolding row_at
row-few s start before h cs f =
    let l = lay_line s h cs in
    omega (arith, events-length start l.placed.left.0 l.drawn, line-few s h cs f.0 f.1)

all-length : (r : Row) (rs : List Row) → length (all_events (r ∷ rs)) ≡ length r.events + length (all_events rs)
unfolding all_events
all-length r rs = length-append r.events (all_events rs)

none-length : length (all_events []) ≡ 0
unfolding all_events
none-length = refl

rows_few : (s : Settings) (cs : List ℕ) → length (all_events (rows s cs)) ≤ size cs
unfolding rows
rows_few s cs =
    each_row s (λ start before h cs rs. length (all_events rs) ≤ size cs)
    (λ start before h cs f e.
    let l = lay_line s h cs in
    omega (arith, all-length (row_at start before h cs l) [], none-length, row-few s start before h cs f, size-take l.chars cs))
    (λ start before h cs f d r rs less.
    let l = lay_line s h cs in
    let k = l.chars in
    omega (
      arith,
      all-length (row_at start before h cs l) (r ∷ rs),
      row-few s start before h cs f,
      less,
      size_append (take k cs) (drop k cs),
      ap size (take-append-drop k cs),
    ))
    (suc (length cs)) 0 0 nothing_held cs (omega arith) (omega arith, omega arith)

-- A text has no more events than bytes.
pub few-events : (s : Settings) (t : List ℕ) → length (events_of s t) ≤ length t
unfolding events_of
few-events s t = omega (arith, rows_few s (chars_from t 0), chars-within t 0)
