-- A layout does not depend on line spacing, paragraph spacing, base, box height, box top and vertical alignment, by the contracts of the
-- calls that lay a text.
-- Assumes nothing.
use Rattle.std.specs.Prelude.{ℕ, ◌≡◌, List, Result}
use Rattle.meaning.specs.declared.answers.Drawing.{Drawing}
use Rattle.meaning.specs.declared.refusals.Refusal.{Refusal}
use Rattle.std.proofs.Math.Path.{sym, ap}
use Rattle.std.proofs.Common.{◌∙◌}
use contract.Lifetimes.{Lfts}
use Rattle.utf8.specs.Decoding.{decode_all}
use Rattle.meaning.specs.Settings.{settings_of}
use Rattle.meaning.specs.Checks.{check_settings}
use Rattle.meaning.specs.Calls.{text_rows, text_entries, text_events, check_layout, layout_answer, layout_table, check_drawing, drawing_answer, drawing_table, drawing_events}
use Rattle.meaning.specs.Answers.{answer_number, count_value, drawingValue, drawingCount}
use Rattle.meaning.specs.declared.settings.Settings.{Settings}
use Rattle.promises.specs.SameLines.{SameLines, same_rows}
use Rattle.promises.specs.Passed.{Lent, LentNumber, LentMut}
use Rattle.promises.specs.CallContracts.{Layout, LayoutWithEvents, CLayout, CLayoutEvents}

-- Both settings are good, or refused alike.
module _ {s s' : Settings} (e : SameLines s s') (c : check_settings s ≡ check_settings s') where
  rows_same : (t : List ℕ) → text_rows s t ≡ text_rows s' t
  unfolding text_rows
  rows_same t = same_rows e (decode_all t)

  check-same : (t b : List ℕ) → check_layout s t b ≡ check_layout s' t b
  unfolding check_layout text_entries
  check-same t b = rw (c, rows_same t)

  answer-same : (t b : List ℕ) → layout_answer s t b ≡ layout_answer s' t b
  unfolding layout_answer text_entries
  answer-same t b = rw (check-same t b, rows_same t)

  table_same : (t b : List ℕ) → layout_table s t b ≡ layout_table s' t b
  unfolding layout_table text_entries
  table_same t b = rw (check-same t b, rows_same t)

  drawing-check-same : (t b v : List ℕ) → check_drawing s t b v ≡ check_drawing s' t b v
  unfolding check_drawing text_events
  drawing-check-same t b v = rw (check-same t b, rows_same t)

  drawing-answer-same : (t b v : List ℕ) → drawing_answer s t b v ≡ drawing_answer s' t b v
  unfolding drawing_answer text_entries text_events
  drawing-answer-same t b v = rw (drawing-check-same t b v, rows_same t)

  drawing-table-same : (t b v : List ℕ) → drawing_table s t b v ≡ drawing_table s' t b v
  unfolding drawing_table text_entries
  drawing-table-same t b v = rw (drawing-check-same t b v, rows_same t)

  drawing-events-same : (t b v : List ℕ) → drawing_events s t b v ≡ drawing_events s' t b v
  unfolding drawing_events text_events
  drawing-events-same t b v = rw (drawing-check-same t b v, rows_same t)

  pub layout_other_settings : (κs : Lfts 2) (text : Lent) (table : LentMut) (z z' : Result ℕ Refusal) (after after' : List ℕ) → Layout κs s text table z after
      → Layout κs s' text table z' after' → (z ≡ z') × (after ≡ after')
  layout_other_settings κs text table z z' after after' p q =
      (p.0 ∙ answer-same text.now table.now ∙ sym q.0, p.1 ∙ table_same text.now table.now ∙ sym q.1)

  pub c-layout_other_settings : (κs : Lfts 3) (text : Lent) (table : LentMut) (value : LentNumber) (z z' : ℕ) (after after' : List ℕ) (count count' : ℕ)
      → CLayout κs s text table value z after count → CLayout κs s' text table value z' after' count'
      → (z ≡ z') × (count ≡ count') × (after ≡ after')
  unfolding settings_of
  c-layout_other_settings κs text table value z z' after after' count count' p q =
      let a = answer-same text.now table.now in (
        p.0 ∙ ap answer_number a ∙ sym q.0,
        p.1.1 ∙ ap count_value a ∙ sym q.1.1,
        p.1.0 ∙ table_same text.now table.now ∙ sym q.1.0,
      )

  pub layout_with_events_other_settings : (κs : Lfts 3) (text : Lent) (table events : LentMut) (z z' : Result Drawing Refusal) (after after' drawn drawn' : List ℕ)
      → LayoutWithEvents κs s text table events z after drawn → LayoutWithEvents κs s' text table events z' after' drawn'
      → (z ≡ z') × (after ≡ after') × (drawn ≡ drawn')
  layout_with_events_other_settings κs text table events z z' after after' drawn drawn' p q =
      let t = text.now in
      let b = table.now in
      let v = events.now in (
        p.0 ∙ drawing-answer-same t b v ∙ sym q.0,
        p.1.0 ∙ drawing-table-same t b v ∙ sym q.1.0,
        p.1.1 ∙ drawing-events-same t b v ∙ sym q.1.1,
      )

  pub c-layout-events_other_settings : (κs : Lfts 5) (text : Lent) (table events : LentMut) (value count : LentNumber) (z z' : ℕ)
      (after after' drawn drawn' : List ℕ) (lines lines' count' count'' : ℕ)
      → CLayoutEvents κs s text table events value count z after drawn lines count'
      → CLayoutEvents κs s' text table events value count z' after' drawn' lines' count''
      → (z ≡ z') × (lines ≡ lines') × (count' ≡ count'') × (after ≡ after') × (drawn ≡ drawn')
  unfolding settings_of
  c-layout-events_other_settings κs text table events value count z z' after after' drawn drawn' lines lines' count' count'' p q =
      let t = text.now in
      let b = table.now in
      let v = events.now in
      let a = drawing-answer-same t b v in (
        p.0 ∙ ap answer_number a ∙ sym q.0,
        p.1.1.1.0 ∙ ap drawingValue a ∙ sym q.1.1.1.0,
        p.1.1.1.1 ∙ ap (λ (x : Result Drawing Refusal). drawingCount x count.now) a ∙ sym q.1.1.1.1,
        p.1.0 ∙ drawing-table-same t b v ∙ sym q.1.0,
        p.1.1.0 ∙ drawing-events-same t b v ∙ sym q.1.1.0,
      )
