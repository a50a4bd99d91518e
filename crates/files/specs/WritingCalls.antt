-- The tests of a layout that is to be written, and what is answered in each case.
-- Refusal 1, refusal 2, refusal 5, refusal 8.
-- Assumes nothing.
use Rattle.std.specs.Prelude.{ℕ, ◌+◌, ◌*◌, ◌≤◌, ◌≡◌, List, [], ◌∷◌, length, Err, Ok, Result}
use Rattle.meaning.specs.Refusals.{Checked}
use Rattle.std.proofs.Math.Path.{sym, ap}
use Rattle.std.proofs.Common.{◌∙◌, arith}
use Rattle.meaning.specs.Checks.{first_of, check_settings, check_room}
use Rattle.meaning.specs.Table.{entry_numbers, entries_in}
use Rattle.meaning.specs.WellFormed.{text_length, check_table}
use Rattle.meaning.specs.LayoutFile.{frame_bytes, line_bytes, layout_file, file_bytes}
use Rattle.meaning.specs.Calls.{written_file, check_writing, writing_answer, writing_file}
use Rattle.meaning.specs.declared.settings.Settings.{Settings}
use Rattle.meaning.specs.declared.refusals.Refusal.{Refusal}
use Rattle.laws.specs.TableLaws.{entries_length}
use Rattle.laws.specs.TestOrder.{first_alone}
use Rattle.files.specs.FileLaws.{file-length}
use Rattle.laws.specs.GoodChecks.{room-is}
use Rattle.look.specs.GoodTable.{table-room, table-count}
use Rattle.table.specs.Numbers.{put_numbers}
use Rattle.file_fields.specs.Putting.{put_written}
use Rattle.files.specs.Tests.{stops, passes, both-good}

module _ (s : Settings) (table : List ℕ) (lines : ℕ) where
  -- How many bytes are written.
  pub written-bytes : length (written_file s table lines) ≡ frame_bytes + line_bytes * lines
  unfolding written_file layout_file file_bytes
  written-bytes =
      file-length s (text_length (entries_in lines table)) (entries_in lines table)
      ∙ ap (λ (n : ℕ). frame_bytes + line_bytes * n) (entries_length lines table)

  module _ (file : List ℕ) where
    abbrev room : Checked
    room = check_room (length file) (length (written_file s table lines))

    pub settings-refused : (r : Refusal) → check_settings s ≡ Err r → Err r ≡ check_writing s table lines file
    unfolding check_writing
    settings-refused r e = sym (stops (check_settings s) (check_table lines table ∷ room ∷ []) r e)

    table_decides : check_settings s ≡ Ok tt → check_writing s table lines file ≡ first_of (check_table lines table ∷ room ∷ [])
    unfolding check_writing
    table_decides e = passes (check_settings s) (check_table lines table ∷ room ∷ []) e

    pub table-refused : check_settings s ≡ Ok tt → (r : Refusal) → check_table lines table ≡ Err r → Err r ≡ check_writing s table lines file
    table-refused g r e = sym (table_decides g ∙ stops (check_table lines table) (room ∷ []) r e)

    pub room_decides : check_settings s ≡ Ok tt → check_table lines table ≡ Ok tt → (c : Checked)
        → c ≡ check_room (length file) (frame_bytes + line_bytes * lines) → c ≡ check_writing s table lines file
    room_decides g h c e =
        e ∙ ap (check_room (length file)) (sym written-bytes)
        ∙ sym (table_decides g ∙ passes (check_table lines table) (room ∷ []) h ∙ first_alone room)

    -- ---- the answers

    abbrev pub Written : Result ℕ Refusal → List ℕ → Type 0
    Written answer after = (answer ≡ writing_answer s table lines file) × (after ≡ writing_file s table lines file)

    pub writing_refused : (r : Refusal) → check_writing s table lines file ≡ Err r → Written (Err r) file
    unfolding writing_answer writing_file
    writing_refused r e = (rw e, rw e)

    module _ (g : check_writing s table lines file ≡ Ok tt) where
      after-settings : (check_settings s ≡ Ok tt) × (first_of (check_table lines table ∷ room ∷ []) ≡ Ok tt)
      unfolding check_writing
      after-settings = both-good (check_settings s) (check_table lines table ∷ room ∷ []) g

      after_table : (check_table lines table ≡ Ok tt) × (first_of (room ∷ []) ≡ Ok tt)
      after_table = both-good (check_table lines table) (room ∷ []) after-settings.1

      pub file-holds : file_bytes lines ≤ length file
      unfolding file_bytes
      file-holds =
          omega (arith, room-is (length file) (length (written_file s table lines)) (sym (first_alone room) ∙ after_table.1), written-bytes)

      pub table-holds : entry_numbers * lines ≤ length table
      table-holds = table-room lines table after_table.0

      pub few-lines : lines ≤ 65536
      few-lines = table-count lines table after_table.0

      pub writing_done : (after : List ℕ) → after ≡ put_numbers file 0 (layout_file s (entries_in lines table))
          → Written (Ok (frame_bytes + line_bytes * lines)) after
      unfolding writing_answer writing_file written_file
      writing_done after e =
          (rw g (ap Ok (sym written-bytes)), rw g (e ∙ put_written file (layout_file s (entries_in lines table))))
