-- The scope's examples of edits, computed: from the layout of the old text, which line is affected, how many lines there are then
-- and how many were laid, and the lines afterwards.
-- Laying again.
-- Assumes nothing.
use Rattle.std.specs.Prelude.{ℕ, zero, suc, List, [], ◌∷◌, ◌++◌, map, length, take, drop, Ok, Result}
use Rattle.meaning.specs.declared.refusals.Refusal.{Refusal}
use Rattle.meaning.specs.declared.answers.Relaid.{Relaid}
use Prim.Native.String.{String}
use Rattle.utf8.specs.Encoding.{encode, size, encode_all}
use Rattle.utf8.specs.WellFormed.{well_formed, rows, fits, some_fits}
use Rattle.utf8.specs.Decoding.{seq_len, value, char_of, decode_head, decode_after, decode_all, valid_prefix}
use Rattle.utf8.specs.Places.{boundary}
use Rattle.meaning.specs.Settings.{top_in_range, sizes_in_range, in_range}
use Rattle.meaning.specs.Checks.{refuse_if, first_of, check_settings, check_length, check_utf8, check_room}
use Rattle.meaning.specs.Table.{of_entry, of_all, capacity_of, written, entry_in, entries_in}
use Rattle.meaning.specs.WellFormed.{last_reach, text_length, start_good, no_rest, rest_good, ending_good, count_good, entry_good, check_lines, check_entries, check_table}
use Rattle.meaning.specs.Edit.{unaffected, affected, in_order, new_length, check_whole, chars_in, rest_fits, check_rest, check_order, part_fits, check_edit, moved, moved_rest, moved_entry, meets, kept_from, again_unless_ended, unless_kept, again_by, held_of, again, lines_again}
use Rattle.meaning.specs.Calls.{check_affected, affected_answer, lines_laid, lines_after, check_relay, relay_answer, relay_table}
use Rattle.meaning.specs.Examples.{codes, box, lines_of}
use Rattle.meaning.specs.Layout.{layout}
use Rattle.meaning.specs.declared.settings.Settings.{Settings}
use Rattle.meaning.specs.declared.edit.Edit.{Edit}
use Rattle.meaning.specs.declared.line.Entry.{Entry}

-- An old text in which bytes from `from` up to `to` give way to those of an inserted text; and what comes out.
pub record EditExample : Type 0 where
  pub settings : Settings
  pub old : String
  pub from : ℕ
  pub to : ℕ
  pub inserted : String
  pub affected : Result ℕ Refusal
  pub answer : Result Relaid Refusal
  pub lines : List (List ℕ)

abbrev example : Settings → String → ℕ → ℕ → String → Result ℕ Refusal → Result Relaid Refusal → List (List ℕ) → EditExample
example s old from to new a r ls =
    record { settings = s; old = old; from = from; to = to; inserted = new; affected = a; answer = r; lines = ls }

abbrev pub edit_examples : List EditExample
edit_examples =
    -- "x" typed at 3: line 1 is affected, one line is laid, and the lines start at 0, 3, 7
    example (box 30) "aa\nbb\ncc" 3 3 "x" (Ok 1) (Ok (record { lines = 3; laid = 1 }))
    ((0 ∷ 0 ∷ 0 ∷ 0 ∷ 0 ∷ 6 ∷ 0 ∷ 12 ∷ 0 ∷ 3 ∷ 0 ∷ []) ∷ (3 ∷ 0 ∷ 0 ∷ 0 ∷ 0 ∷ 6 ∷ 0 ∷ 18 ∷ 0 ∷ 7 ∷ 3 ∷ [])
    ∷ (7 ∷ 0 ∷ 0 ∷ 2 ∷ 0 ∷ 6 ∷ 0 ∷ 12 ∷ 0 ∷ 10 ∷ 7 ∷ []) ∷ [])
    -- the "e" deleted, which stands on line 1: line 0 is affected, since "cd" now fits there
    ∷ example (box 30) "ab cde" 5 6 "" (Ok 0) (Ok (record { lines = 1; laid = 1 })) ((0 ∷ 0 ∷ 0 ∷ 2 ∷ 0 ∷ 6 ∷ 0 ∷ 30 ∷ 0 ∷ 6 ∷ 0 ∷ []) ∷ [])
    -- an edit of nothing where a line starts: nothing is laid
    ∷ example (box 30) "aa\nbb\ncc" 3 3 "" (Ok 1) (Ok (record { lines = 3; laid = 0 }))
    ((0 ∷ 0 ∷ 0 ∷ 0 ∷ 0 ∷ 6 ∷ 0 ∷ 12 ∷ 0 ∷ 3 ∷ 0 ∷ []) ∷ (3 ∷ 0 ∷ 0 ∷ 0 ∷ 0 ∷ 6 ∷ 0 ∷ 12 ∷ 0 ∷ 6 ∷ 3 ∷ [])
    ∷ (6 ∷ 0 ∷ 0 ∷ 2 ∷ 0 ∷ 6 ∷ 0 ∷ 12 ∷ 0 ∷ 9 ∷ 6 ∷ []) ∷ [])
    -- the old lines that follow move with their rest
    ∷ example (box 18) "zz\nabc   d" 0 0 "y" (Ok 0) (Ok (record { lines = 3; laid = 1 }))
    ((0 ∷ 0 ∷ 0 ∷ 0 ∷ 0 ∷ 6 ∷ 0 ∷ 18 ∷ 0 ∷ 4 ∷ 0 ∷ []) ∷ (4 ∷ 0 ∷ 0 ∷ 3 ∷ 0 ∷ 6 ∷ 0 ∷ 18 ∷ 0 ∷ 11 ∷ 4 ∷ [])
    ∷ (8 ∷ 10 ∷ 2 ∷ 2 ∷ 0 ∷ 6 ∷ 0 ∷ 18 ∷ 0 ∷ 12 ∷ 8 ∷ []) ∷ [])
    -- a line that starts right but with another rest is laid: a rest of three spaces fills it, and drops "d"
    ∷ example (box 18) "abc   d" 4 4 " " (Ok 0) (Ok (record { lines = 3; laid = 3 }))
    ((0 ∷ 0 ∷ 0 ∷ 3 ∷ 0 ∷ 6 ∷ 0 ∷ 18 ∷ 0 ∷ 8 ∷ 0 ∷ []) ∷ (4 ∷ 7 ∷ 3 ∷ 3 ∷ 0 ∷ 6 ∷ 0 ∷ 0 ∷ 1 ∷ 9 ∷ 4 ∷ [])
    ∷ (8 ∷ 0 ∷ 0 ∷ 2 ∷ 0 ∷ 6 ∷ 0 ∷ 0 ∷ 0 ∷ 9 ∷ 8 ∷ []) ∷ [])
    -- and so is one that has no rest where the old line had one: a line feed in place of the first space
    ∷ example (box 18) "abc   d" 3 4 "\n" (Ok 0) (Ok (record { lines = 2; laid = 2 }))
    ((0 ∷ 0 ∷ 0 ∷ 0 ∷ 0 ∷ 6 ∷ 0 ∷ 18 ∷ 0 ∷ 4 ∷ 0 ∷ []) ∷ (4 ∷ 0 ∷ 0 ∷ 2 ∷ 0 ∷ 6 ∷ 0 ∷ 18 ∷ 0 ∷ 8 ∷ 4 ∷ []) ∷ [])
    -- where the text is not all of one byte a character, the characters before the old lines that follow rise by those typed:
    -- one of two bytes for one of one byte, by none; two of three bytes, by two; and they fall by those deleted
    ∷ example (box 30) "aé\nbü\ncc" 0 1 "ä" (Ok 0) (Ok (record { lines = 3; laid = 1 }))
    ((0 ∷ 0 ∷ 0 ∷ 0 ∷ 0 ∷ 6 ∷ 0 ∷ 12 ∷ 0 ∷ 5 ∷ 0 ∷ []) ∷ (5 ∷ 0 ∷ 0 ∷ 0 ∷ 0 ∷ 6 ∷ 0 ∷ 12 ∷ 0 ∷ 9 ∷ 3 ∷ [])
    ∷ (9 ∷ 0 ∷ 0 ∷ 2 ∷ 0 ∷ 6 ∷ 0 ∷ 12 ∷ 0 ∷ 12 ∷ 6 ∷ []) ∷ [])
    ∷ example (box 30) "aé\nbü\ncc" 4 4 "猫犬" (Ok 1) (Ok (record { lines = 3; laid = 1 }))
    ((0 ∷ 0 ∷ 0 ∷ 0 ∷ 0 ∷ 6 ∷ 0 ∷ 12 ∷ 0 ∷ 4 ∷ 0 ∷ []) ∷ (4 ∷ 0 ∷ 0 ∷ 0 ∷ 0 ∷ 6 ∷ 0 ∷ 24 ∷ 0 ∷ 14 ∷ 3 ∷ [])
    ∷ (14 ∷ 0 ∷ 0 ∷ 2 ∷ 0 ∷ 6 ∷ 0 ∷ 12 ∷ 0 ∷ 17 ∷ 8 ∷ []) ∷ [])
    ∷ example (box 30) "aé\nbü\ncc" 1 3 "" (Ok 0) (Ok (record { lines = 3; laid = 1 }))
    ((0 ∷ 0 ∷ 0 ∷ 0 ∷ 0 ∷ 6 ∷ 0 ∷ 6 ∷ 0 ∷ 2 ∷ 0 ∷ []) ∷ (2 ∷ 0 ∷ 0 ∷ 0 ∷ 0 ∷ 6 ∷ 0 ∷ 12 ∷ 0 ∷ 6 ∷ 2 ∷ [])
    ∷ (6 ∷ 0 ∷ 0 ∷ 2 ∷ 0 ∷ 6 ∷ 0 ∷ 12 ∷ 0 ∷ 9 ∷ 5 ∷ []) ∷ [])
    -- all of a text replaced, and a text emptied
    ∷ example (box 30) "ab" 0 2 "c d" (Ok 0) (Ok (record { lines = 1; laid = 1 })) ((0 ∷ 0 ∷ 0 ∷ 2 ∷ 0 ∷ 6 ∷ 0 ∷ 18 ∷ 0 ∷ 4 ∷ 0 ∷ []) ∷ [])
    ∷ example (box 30) "ab cde" 0 6 "" (Ok 0) (Ok (record { lines = 1; laid = 1 })) ((0 ∷ 0 ∷ 0 ∷ 2 ∷ 0 ∷ 6 ∷ 0 ∷ 0 ∷ 0 ∷ 1 ∷ 0 ∷ []) ∷ [])
    ∷ []

-- Eleven numbers each of n lines, all 7: a table that nothing was written to.
unfoldable pub blank : ℕ → List ℕ
blank zero = []
blank (suc n) = 7 ∷ 7 ∷ 7 ∷ 7 ∷ 7 ∷ 7 ∷ 7 ∷ 7 ∷ 7 ∷ 7 ∷ 7 ∷ blank n

-- A table of five lines that the old layout was written to.
unfoldable pub table_of : EditExample → List ℕ
unfolding lines_of codes of_all written blank
table_of x = written (blank 5) (of_all of_entry (layout x.settings (codes x.old)))

unfoldable pub lines_in : EditExample → ℕ
unfolding lines_of codes
lines_in x = length (layout x.settings (codes x.old))

abbrev pub edit_of : EditExample → Edit
edit_of x =
    record { from = record { 0 = x.from }; to = record { 0 = x.to }; inserted = record { 0 = size (codes x.inserted) } }

-- The bytes of the new text, and its part from the first affected line's start on.
unfoldable pub new_text : EditExample → List ℕ
unfolding codes encode encode_all
new_text x =
    let old = encode_all (codes x.old) in
    take x.from old ++ (encode_all (codes x.inserted) ++ drop x.to old)

abbrev pub start_of : List Entry → ℕ
start_of [] = 0
start_of (e ∷ es) = e.start.0

unfoldable pub part_of : EditExample → List ℕ
unfolding new_text
part_of x = drop (start_of (affected x.from (layout x.settings (codes x.old)))) (new_text x)

-- What the two calls make of an example.
unfoldable pub computed : EditExample → EditExample
unfolding table_of lines_in part_of well_formed rows fits some_fits seq_len value char_of decode_head decode_after decode_all valid_prefix boundary top_in_range sizes_in_range in_range refuse_if first_of check_settings check_length check_utf8 check_room capacity_of entry_in entries_in last_reach text_length start_good no_rest rest_good ending_good count_good entry_good check_lines check_entries check_table unaffected affected in_order new_length check_whole chars_in rest_fits check_rest check_order part_fits check_edit moved moved_rest moved_entry meets kept_from again_unless_ended unless_kept again_by held_of again lines_again check_affected affected_answer lines_laid lines_after check_relay relay_answer relay_table
computed x =
    let table = table_of x in
    let n = lines_in x in
    record {
      settings = x.settings;
      old = x.old;
      from = x.from;
      to = x.to;
      inserted = x.inserted;
      affected = affected_answer table n (edit_of x);
      answer = relay_answer x.settings (part_of x) table n (edit_of x);
      lines = map of_entry (entries_in (length x.lines) (relay_table x.settings (part_of x) table n (edit_of x)));
    }
