-- What a fresh layout answers and leaves in each of its cases, without events and with them.
-- Assumes nothing.
use Rattle.std.specs.Prelude.{ℕ, ◌≡◌, List, Err, Ok, Result}
use Rattle.meaning.specs.declared.answers.Drawing.{Drawing as Counts}
use Rattle.std.proofs.Common.{arith, ◌∙◌}
use Rattle.std.proofs.Math.Path.{ap}
use Rattle.std.proofs.Math.ListN.{length}
use Rattle.meaning.specs.Checks.{first_of, check_room}
use Rattle.meaning.specs.Table.{event_numbers, of_entry, of_event, of_all, capacity_of, written}
use Rattle.meaning.specs.Calls.{text_entries, text_events, check_layout, layout_answer, layout_table, check_drawing, drawing_answer, drawing_table, drawing_events}
use Rattle.meaning.specs.declared.settings.Settings.{Settings}
use Rattle.meaning.specs.declared.line.Entry.{Entry}
use Rattle.meaning.specs.declared.line.Event.{Event}
use Rattle.meaning.specs.declared.refusals.Refusal.{Refusal}
use Rattle.laws.specs.TestOrder.{first_alone}
use Rattle.table.specs.Numbers.{put_events, put-events}
use Rattle.rows.specs.RowsFrom.{entries_of, entries_are}
use Rattle.layout.specs.EventsFrom.{events_of, events-are}
use Rattle.layout.specs.Checking.{long-enough}

-- The lines that were written, as the definitions of the calls speak of them.
lines-written : (s : Settings) (t table after : List ℕ) → after ≡ written table (of_all of_entry (entries_of s t))
    → after ≡ written table (of_all of_entry (text_entries s t))
lines-written s t table after e = e ∙ ap (λ (es : List Entry). written table (of_all of_entry es)) (entries_are s t)

-- ---- without events

module _ (s : Settings) (t table : List ℕ) where
  -- What the call answers, and the table afterwards.
  abbrev pub Laying : Result ℕ Refusal → List ℕ → Type 0
  Laying answer after = (answer ≡ layout_answer s t table) × (after ≡ layout_table s t table)

  pub layout-refused : (r : Refusal) → check_layout s t table ≡ Err r → Laying (Err r) table
  unfolding layout_answer layout_table
  layout-refused r e = (rw e, rw e)

  pub layout-done : check_layout s t table ≡ Ok tt → (n : ℕ) → n ≡ length (entries_of s t)
      → (after : List ℕ) → after ≡ written table (of_all of_entry (entries_of s t)) → Laying (Ok n) after
  unfolding layout_answer layout_table
  layout-done good n e after w = (rw (good, e ∙ ap length (entries_are s t)), rw good (lines-written s t table after w))

-- ---- with events

module _ (s : Settings) (t table events : List ℕ) where
  -- What the call answers, and the table and the event buffer afterwards.
  abbrev pub Drawing : Result Counts Refusal → List ℕ → List ℕ → Type 0
  Drawing answer after drawn =
      (answer ≡ drawing_answer s t table events) × ((after ≡ drawing_table s t table events) × (drawn ≡ drawing_events s t table events))

  refused : (r : Refusal) → check_drawing s t table events ≡ Err r → Drawing (Err r) table events
  unfolding drawing_answer drawing_table drawing_events
  refused r e = (rw e, (rw e, rw e))

  -- The layout is refused.
  pub lines-refused : (r : Refusal) → check_layout s t table ≡ Err r → Drawing (Err r) table events
  unfolding check_drawing first_of
  lines-refused r e = refused r (rw e)

  module _ (good : check_layout s t table ≡ Ok tt) where
    room_decides : check_drawing s t table events ≡ check_room (capacity_of event_numbers events) (length (events_of s t))
    unfolding check_drawing first_of
    room_decides = rw (good, events-are s t) (first_alone _)

    -- The event buffer is too small.
    pub events-refused : (r : Refusal) → check_room (capacity_of event_numbers events) (length (events_of s t)) ≡ Err r
        → Drawing (Err r) table events
    events-refused r e = refused r (room_decides ∙ e)

    -- Lines and events are written.
    module _ (room : check_room (capacity_of event_numbers events) (length (events_of s t)) ≡ Ok tt) where
      put_written : put_events events 0 (events_of s t) ≡ written events (of_all of_event (text_events s t))
      put_written =
          put-events events (events_of s t) (long-enough 6 (length (events_of s t)) events (omega arith) room)
          ∙ ap (λ (es : List Event). written events (of_all of_event es)) (events-are s t)

      pub drawing-done : (n m : ℕ) → n ≡ length (entries_of s t) → m ≡ length (events_of s t)
          → (after : List ℕ) → after ≡ written table (of_all of_entry (entries_of s t))
          → (drawn : List ℕ) → drawn ≡ put_events events 0 (events_of s t) → Drawing (Ok (record { lines = n; events = m })) after drawn
      unfolding drawing_answer drawing_table drawing_events
      drawing-done n m e f after w drawn d =
          let all : check_drawing s t table events ≡ Ok tt = room_decides ∙ room in (
            rw (all, e ∙ ap length (entries_are s t), f ∙ ap length (events-are s t)),
            (rw all (lines-written s t table after w), rw all (d ∙ put_written)),
          )
