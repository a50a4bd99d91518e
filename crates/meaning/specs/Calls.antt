-- What each public call answers, and what each buffer that it is lent holds afterwards, from what it was lent alone.
-- A text is a list of bytes here, and a table or buffer a list of numbers.
-- Refusal 1, refusal 2, refusal 3, refusal 4, refusal 5, refusal 6, refusal 8, refusal 9, refusal 10, refusal 11, refusal 12, laying again.
-- Assumes nothing.
use Rattle.std.specs.Prelude.{ℕ, not, List, [], ◌∷◌, map, ltb, eqb, ℤ, length, Err, None, Ok, Option, Result, Some}
use Rattle.meaning.specs.Refusals.{Checked}
use Rattle.meaning.specs.declared.answers.Drawing.{Drawing}
use Rattle.meaning.specs.declared.answers.FileRead.{FileRead}
use Rattle.meaning.specs.declared.answers.LineY.{LineY}
use Rattle.meaning.specs.declared.answers.NextLine.{NextLine}
use Rattle.meaning.specs.declared.refusals.Refusal.{Refusal}
use Rattle.meaning.specs.declared.answers.Relaid.{Relaid}
use Rattle.basis.specs.Choice.{pick}
use Rattle.utf8.specs.Decoding.{decode_all}
use Rattle.meaning.specs.Checks.{refuse_if, first_of, answered, afterwards, check_settings, check_length, check_utf8, check_room}
use Rattle.meaning.specs.Tokens.{tokens, ranged}
use Rattle.meaning.specs.Layout.{Row, rows, entry_of_row, all_events}
use Rattle.meaning.specs.Table.{entry_numbers, event_numbers, token_numbers, of_entry, of_event, of_token, of_all, capacity_of, written, entries_in}
use Rattle.meaning.specs.WellFormed.{check_table}
use Rattle.meaning.specs.Edit.{unaffected, affected, check_whole, check_rest, check_order, check_edit, again, lines_again}
use Rattle.meaning.specs.Frames.{stand_good, one_line}
use Rattle.meaning.specs.Height.{height_of, y_of, shows_at}
use Rattle.meaning.specs.YIndex.{index_of, kept_before, written_from, check_index, find_in}
use Rattle.meaning.specs.LayoutFile.{settings_numbers, of_settings, layout_file}
use Rattle.meaning.specs.ReadFile.{check_fields, file_settings, file_text_length, file_entries, unretired, check_retired, check_lines_read}
use Rattle.meaning.specs.Refusals.{number_of}
use Rattle.meaning.specs.declared.settings.Settings.{Settings}
use Rattle.meaning.specs.declared.tokens.Token.{Token}
use Rattle.meaning.specs.declared.edit.Edit.{Edit}
use Rattle.meaning.specs.declared.line.Rest.{Rest}
use Rattle.meaning.specs.declared.line.Entry.{Entry}
use Rattle.meaning.specs.declared.line.Event.{Event}
use Rattle.meaning.specs.declared.refusals.Refusal.TheVariants.{BadLine}

-- ---- tokens

unfoldable pub text_tokens : List ℕ → List Token
text_tokens t = ranged 0 (tokens (decode_all t))

unfoldable pub check_tokens : List ℕ → (buffer : List ℕ) → Checked
check_tokens t buffer =
    first_of (check_length (length t) ∷ check_utf8 t ∷ check_room (capacity_of token_numbers buffer) (length (text_tokens t)) ∷ [])

unfoldable pub tokens_answer : List ℕ → (buffer : List ℕ) → Result ℕ Refusal
tokens_answer t buffer = answered (check_tokens t buffer) (Ok (length (text_tokens t))) Err

unfoldable pub tokens_buffer : List ℕ → (buffer : List ℕ) → List ℕ
tokens_buffer t buffer = afterwards (check_tokens t buffer) (written buffer (of_all of_token (text_tokens t))) buffer

-- ---- the fresh layout

unfoldable pub text_rows : Settings → List ℕ → List Row
text_rows s t = rows s (decode_all t)

unfoldable pub text_entries : Settings → List ℕ → List Entry
text_entries s t = map entry_of_row (text_rows s t)

unfoldable pub text_events : Settings → List ℕ → List Event
text_events s t = all_events (text_rows s t)

unfoldable pub check_layout : Settings → List ℕ → (table : List ℕ) → Checked
check_layout s t table =
    first_of
    (check_settings s ∷ check_length (length t) ∷ check_utf8 t ∷ check_room (capacity_of entry_numbers table) (length (text_entries s t)) ∷ [])

unfoldable pub layout_answer : Settings → List ℕ → (table : List ℕ) → Result ℕ Refusal
layout_answer s t table = answered (check_layout s t table) (Ok (length (text_entries s t))) Err

unfoldable pub layout_table : Settings → List ℕ → (table : List ℕ) → List ℕ
layout_table s t table = afterwards (check_layout s t table) (written table (of_all of_entry (text_entries s t))) table

-- ---- the fresh layout with events: 8 of the table first, then of the event buffer

unfoldable pub check_drawing : Settings → List ℕ → (table events : List ℕ) → Checked
check_drawing s t table events =
    first_of (check_layout s t table ∷ check_room (capacity_of event_numbers events) (length (text_events s t)) ∷ [])

unfoldable pub drawing_answer : Settings → List ℕ → (table events : List ℕ) → Result Drawing Refusal
drawing_answer s t table events =
    answered (check_drawing s t table events) (Ok (record { lines = length (text_entries s t); events = length (text_events s t) })) Err

unfoldable pub drawing_table : Settings → List ℕ → (table events : List ℕ) → List ℕ
drawing_table s t table events = afterwards (check_drawing s t table events) (written table (of_all of_entry (text_entries s t))) table

unfoldable pub drawing_events : Settings → List ℕ → (table events : List ℕ) → List ℕ
drawing_events s t table events = afterwards (check_drawing s t table events) (written events (of_all of_event (text_events s t))) events

-- ---- a line for each frame: the opening, and one line at a start

unfoldable pub check_open : Settings → List ℕ → Checked
check_open s t = first_of (check_settings s ∷ check_length (length t) ∷ check_utf8 t ∷ [])

unfoldable pub open_answer : Settings → List ℕ → Result ℕ Refusal
open_answer s t = answered (check_open s t) (Ok 0) Err

-- 5, with line 0: a start or a rest that a line cannot have.
unfoldable pub check_stand : List ℕ → (start : ℕ) → Rest → Checked
check_stand t start r = refuse_if (not (stand_good (decode_all t) start r)) (BadLine 0)

unfoldable pub check_frame : Settings → List ℕ → (start : ℕ) → Rest → (entry : List ℕ) → Checked
check_frame s t start r entry =
    first_of
    (check_settings s ∷ check_length (length t) ∷ check_utf8 t ∷ check_stand t start r ∷ check_room (capacity_of entry_numbers entry) 1 ∷ [])

unfoldable pub frame_answer : Settings → List ℕ → (start : ℕ) → Rest → (entry : List ℕ) → Result NextLine Refusal
frame_answer s t start r entry =
    let o = one_line s (decode_all t) start r in
    answered (check_frame s t start r entry) (Ok (record { start = record { 0 = o.next }; rest = o.rest })) Err

unfoldable pub frame_entry : Settings → List ℕ → (start : ℕ) → Rest → (entry : List ℕ) → List ℕ
frame_entry s t start r entry =
    afterwards (check_frame s t start r entry) (written entry (of_entry (one_line s (decode_all t) start r).entry)) entry

-- ---- the first affected line, from a table of so many lines and an edit: 3, 5, 6

unfoldable pub check_affected : List ℕ → (lines : ℕ) → Edit → Checked
check_affected table lines ed =
    let old = entries_in lines table in
    first_of (check_whole (check_table lines table) old ed ∷ check_table lines table ∷ check_order old ed ∷ [])

unfoldable pub affected_answer : List ℕ → (lines : ℕ) → Edit → Result ℕ Refusal
affected_answer table lines ed =
    answered (check_affected table lines ed) (Ok (length (unaffected ed.from.0 (entries_in lines table)))) Err

-- ---- laying again: the part is the new text from the first affected line's start on

unfoldable pub lines_laid : Settings → List ℕ → List ℕ → (lines : ℕ) → Edit → List Row
lines_laid s part table lines ed =
    let old = entries_in lines table in
    (again s ed old (affected ed.from.0 old) (decode_all part)).laid

unfoldable pub lines_after : Settings → List ℕ → List ℕ → (lines : ℕ) → Edit → List Entry
lines_after s part table lines ed = lines_again s ed (entries_in lines table) (decode_all part)

unfoldable pub check_relay : Settings → List ℕ → List ℕ → (lines : ℕ) → Edit → Checked
check_relay s part table lines ed =
    let old = entries_in lines table in
    let first = length (unaffected ed.from.0 old) in
    let onward = affected ed.from.0 old in
    first_of
    (check_settings s ∷ check_length (length part) ∷ check_whole (check_table lines table) old ed ∷ check_utf8 part
    ∷ check_table lines table ∷ check_rest first onward (decode_all part) ∷ check_edit old ed onward (length part) (decode_all part)
    ∷ check_room (capacity_of entry_numbers table) (length (lines_after s part table lines ed)) ∷ [])

-- The lines that the table now holds, and how many were laid.
unfoldable pub relay_answer : Settings → List ℕ → List ℕ → (lines : ℕ) → Edit → Result Relaid Refusal
relay_answer s part table lines ed =
    answered (check_relay s part table lines ed)
    (Ok (record { lines = length (lines_after s part table lines ed); laid = length (lines_laid s part table lines ed) })) Err

unfoldable pub relay_table : Settings → List ℕ → List ℕ → (lines : ℕ) → Edit → List ℕ
relay_table s part table lines ed =
    afterwards (check_relay s part table lines ed) (written table (of_all of_entry (lines_after s part table lines ed))) table

-- ---- height and y: 1, 2, 5

unfoldable pub check_height : Settings → List ℕ → (lines : ℕ) → Checked
check_height s table lines = first_of (check_settings s ∷ check_table lines table ∷ [])

unfoldable pub height_answer : Settings → List ℕ → (lines : ℕ) → Result ℕ Refusal
height_answer s table lines = answered (check_height s table lines) (Ok (height_of s (entries_in lines table))) Err

unfoldable pub y_answer : Settings → List ℕ → (lines line : ℕ) → Result (Option LineY) Refusal
y_answer s table lines k =
    let y = y_of s k (entries_in lines table) in
    answered (check_height s table lines)
    (Ok (pick (ltb k lines) (Some (record { y = y; shows = shows_at s y })) None)) Err

-- ---- the index of ys, made and made again: 1, 2, 5, 8

unfoldable pub check_indexing : Settings → List ℕ → (lines room : ℕ) → Checked
check_indexing s table lines room = first_of (check_settings s ∷ check_table lines table ∷ check_room room lines ∷ [])

unfoldable pub index_answer : Settings → List ℕ → (lines : ℕ) → (index : List ℤ) → Result ℕ Refusal
index_answer s table lines index = answered (check_indexing s table lines (length index)) (Ok lines) Err

-- The index afterwards, where the entries of so many lines are kept.
unfoldable pub index_from : (kept : ℕ) → Settings → List ℕ → (lines : ℕ) → (index : List ℤ) → List ℤ
index_from kept s table lines index =
    afterwards (check_indexing s table lines (length index)) (written_from kept index (index_of s (entries_in lines table))) index

unfoldable pub index_after : Settings → List ℕ → (lines : ℕ) → (index : List ℤ) → List ℤ
index_after s table lines index = index_from 0 s table lines index

unfoldable pub index_again_after : Settings → List ℕ → (lines first : ℕ) → (index : List ℤ) → List ℤ
index_again_after s table lines first index = index_from (kept_before s first) s table lines index

-- ---- the line under a y: 5, 10

unfoldable pub check_finding : List ℕ → (lines : ℕ) → (index : List ℤ) → Checked
check_finding table lines index = first_of (check_table lines table ∷ check_index lines index ∷ [])

unfoldable pub find_answer : List ℕ → (lines : ℕ) → (index : List ℤ) → (y : ℤ) → Result (Option ℕ) Refusal
find_answer table lines index y = answered (check_finding table lines index) (Ok (find_in y index)) Err

-- ---- a layout written to a file: 1, 2, 5, 8 (in bytes)

unfoldable pub written_file : Settings → List ℕ → (lines : ℕ) → List ℕ
written_file s table lines = layout_file s (entries_in lines table)

unfoldable pub check_writing : Settings → List ℕ → (lines : ℕ) → (file : List ℕ) → Checked
check_writing s table lines file =
    first_of (check_settings s ∷ check_table lines table ∷ check_room (length file) (length (written_file s table lines)) ∷ [])

unfoldable pub writing_answer : Settings → List ℕ → (lines : ℕ) → (file : List ℕ) → Result ℕ Refusal
writing_answer s table lines file =
    answered (check_writing s table lines file) (Ok (length (written_file s table lines))) Err

unfoldable pub writing_file : Settings → List ℕ → (lines : ℕ) → (file : List ℕ) → List ℕ
writing_file s table lines file = afterwards (check_writing s table lines file) (written file (written_file s table lines)) file

-- ---- a layout read from a file: 9 and 11, 1, 2, 12, 3, 5, 8 (of the settings, then of the table)

unfoldable pub check_reading : (file settings table : List ℕ) → Checked
check_reading file settings table =
    let s = file_settings file in
    first_of
    (check_fields file ∷ check_settings (unretired s) ∷ check_retired (length settings) s ∷ check_length (file_text_length file)
    ∷ check_lines_read (file_text_length file) (file_entries file) ∷ check_room (length settings) settings_numbers
    ∷ check_room (capacity_of entry_numbers table) (length (file_entries file)) ∷ [])

unfoldable pub reading_answer : (file settings table : List ℕ) → Result FileRead Refusal
reading_answer file settings table =
    answered (check_reading file settings table) (Ok (record { lines = length (file_entries file); bytes = file_text_length file })) Err

unfoldable pub reading_table : (file settings table : List ℕ) → List ℕ
reading_table file settings table = afterwards (check_reading file settings table) (written table (of_all of_entry (file_entries file))) table

-- The settings are handed out where nothing is refused, and with refusal 12.
unfoldable pub handed_out : Checked → List ℕ → List ℕ → List ℕ
handed_out (Ok tt) new old = new
handed_out (Err r) new old = pick (eqb (number_of r) 12) new old

unfoldable pub reading_settings : (file settings table : List ℕ) → List ℕ
reading_settings file settings table =
    handed_out (check_reading file settings table) (written settings (of_settings (unretired (file_settings file)))) settings
