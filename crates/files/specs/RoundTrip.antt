-- What is written reads back the same, and what is read writes back the same bytes, of what the two calls answer.
-- Refusal 1, refusal 2, refusal 3, refusal 5, refusal 8, refusal 9, refusal 11, refusal 12.
-- Assumes nothing.
use Rattle.std.specs.Prelude.{ℕ, zero, suc, ◌*◌, ◌≤◌, ◌≡◌, refl, eqb, drop, Err, Ok}
use Rattle.meaning.specs.Refusals.{Checked}
use Rattle.std.proofs.Math.Path.{sym, ap}
use Rattle.std.proofs.Common.{◌∙◌, subst, arith, length-drop}
use mathlib.Core.List.{List, [], ◌∷◌}
use borrow.Author.Tests.{le-leb, eq-eqb, eqb-true}
use Rattle.std.proofs.Math.ListN.{length}
use Rattle.basis.specs.Choice.{pick_true}
use Rattle.meaning.specs.Answers.{answer_number}
use Rattle.meaning.specs.Checks.{first_of, check_settings, check_length, check_room}
use Rattle.meaning.specs.Table.{entry_numbers, of_entry, of_all, capacity_of, written, entries_in}
use Rattle.meaning.specs.WellFormed.{text_length, check_entries, check_table}
use Rattle.meaning.specs.LayoutFile.{settings_numbers, of_settings, file_of, layout_file}
use Rattle.meaning.specs.ReadFile.{check_fields, file_settings, file_text_length, file_lines, file_entries, unretired, check_retired, check_lines_read}
use Rattle.meaning.specs.Calls.{written_file, check_writing, writing_answer, writing_file, check_reading, reading_answer, reading_table, handed_out, reading_settings}
use Rattle.meaning.specs.declared.settings.Settings.{Settings}
use Rattle.meaning.specs.declared.line.Entry.{Entry}
use Rattle.meaning.specs.declared.refusals.Refusal.TheVariants.{BadLine, RetiredSetting}
use Rattle.laws.specs.GoodChecks.{length-good, room-good}
use Rattle.laws.specs.GoodLines.{good-both}
use Rattle.laws.specs.TableLaws.{entries_length, entries_numbers, entries_written, written-length, numbers-read, capacity_is}
use Rattle.file_fields.specs.FileNumbers.{Bytes, Words, below-take, below-drop}
use Rattle.file_fields.specs.FileFields.{EntryWords}
use Rattle.files.specs.FileLaws.{SettingsWords, file-found, settings-read, length-read, entries_read, file-written}
use Rattle.laws.specs.GoodChecks.{has_room}
use Rattle.look.specs.GoodTable.{table-room, table-text}
use Rattle.files.specs.Tests.{both-good}
use Rattle.files.specs.Known.{not_retired, unretired-same}
use Rattle.files.specs.ReadingCalls.{entries_many, lines_fit_lem}

-- ---- what is written reads back the same

-- Each number of a table's lines is one of the table's.
lines-words : (n : ℕ) (t : List ℕ) → entry_numbers * n ≤ length t → Words t → EntryWords (entries_in n t)
unfolding entries_in
lines-words zero t h w = tt
lines-words (suc n) t h w = (
  subst Words (sym (numbers-read t (omega arith))) (below-take 4294967296 entry_numbers t w),
  lines-words n (drop entry_numbers t) (omega (arith, length-drop entry_numbers t)) (below-drop 4294967296 entry_numbers t w),
)

-- Settings whose retired setting is off, and a table that is well formed, of numbers of 32 bits as a caller passes them.
pub record Writable (s : Settings) (table : List ℕ) (lines : ℕ) : Type 0 where
  pub settings : check_settings s ≡ Ok tt
  pub off : s.trailing ≡ 0
  pub whole : check_table lines table ≡ Ok tt
  pub settings-words : SettingsWords s
  pub table-words : Words table

module _ (s : Settings) (table : List ℕ) (lines : ℕ) (w : Writable s table lines) where
  abbrev file : List ℕ
  file = written_file s table lines

  abbrev es : List Entry
  es = entries_in lines table

  fields_are : check_fields file ≡ Ok tt
  unfolding written_file layout_file
  fields_are = file-found s (text_length es) es

  settings-are : file_settings file ≡ s
  unfolding written_file layout_file
  settings-are = settings-read s (text_length es) es w.settings-words

  length-is : file_text_length file ≡ text_length es
  unfolding written_file layout_file
  length-is = length-read s (text_length es) es (omega (arith, table-text lines table w.whole))

  entries_are : file_entries file ≡ es
  unfolding written_file layout_file
  entries_are = entries_read s (text_length es) es (lines-words lines table (table-room lines table w.whole) w.table-words)

  not_on : s.trailing ≡ 1 → ⊥
  not_on e = omega (arith, w.off, e)

  same-settings : unretired (file_settings file) ≡ s
  same-settings = ap unretired settings-are ∙ sym (unretired-same s not_on)

  entries_good : check_entries es ≡ Ok tt
  unfolding check_table
  entries_good = (good-both _ (check_entries es) (BadLine 0) w.whole).1

  lines-good : check_lines_read (text_length es) es ≡ Ok tt
  unfolding check_lines_read
  lines-good = pick_true _ _ _ (eq-eqb (text_length es) (text_length es) refl) ∙ entries_good

  module _ (settings other : List ℕ) (room : settings_numbers ≤ length settings) (holds : entry_numbers * lines ≤ length other) where
    -- Each test in its turn refuses nothing.
    settings-good : check_settings (unretired (file_settings file)) ≡ Ok tt
    settings-good = ap check_settings same-settings ∙ w.settings

    retired_good : check_retired (length settings) (file_settings file) ≡ Ok tt
    retired_good = ap (check_retired (length settings)) settings-are ∙ sym (not_retired s (length settings) not_on)

    text-good : check_length (file_text_length file) ≡ Ok tt
    text-good = ap check_length length-is ∙ length-good (text_length es) (table-text lines table w.whole)

    read-good : check_lines_read (file_text_length file) (file_entries file) ≡ Ok tt
    read-good = (λ i. check_lines_read (length-is i) (entries_are i)) ∙ lines-good

    many : length (file_entries file) ≡ lines
    many = ap length entries_are ∙ entries_length lines table

    table_fits : check_room (capacity_of entry_numbers other) (length (file_entries file)) ≡ Ok tt
    table_fits = ap (check_room (capacity_of entry_numbers other)) many ∙ room-good lines other holds

    pub reads-good : check_reading file settings other ≡ Ok tt
    unfolding check_reading first_of
    reads-good =
        rw (fields_are, settings-good, retired_good, text-good, read-good, sym (has_room (length settings) settings_numbers room), table_fits)

    -- Read on any machine, the file gives as many lines, the same text length, the same table and the same settings.
    pub read_answer : reading_answer file settings other ≡ Ok (record { lines = lines; bytes = text_length es })
    unfolding reading_answer
    read_answer = rw reads-good (λ i. Ok (record { lines = many i; bytes = length-is i }))

    pub read_table : reading_table file settings other ≡ written other (of_all of_entry es)
    unfolding reading_table
    read_table = rw reads-good (ap (λ (es : List Entry). written other (of_all of_entry es)) entries_are)

    pub read_entries : entries_in lines (reading_table file settings other) ≡ es
    read_entries =
        ap (entries_in lines) read_table
        ∙ ap (λ (n : ℕ). entries_in n (written other (of_all of_entry es))) (sym (entries_length lines table))
        ∙ entries_written es other

    pub read-settings : reading_settings file settings other ≡ written settings (of_settings s)
    unfolding reading_settings handed_out
    read-settings = rw reads-good (ap (λ (s : Settings). written settings (of_settings s)) same-settings)

retired_off : (s : Settings) (room : ℕ) → check_retired room s ≡ Ok tt → s.trailing ≡ 1 → ⊥
unfolding check_retired first_of
retired_off s room g e = never (check_room room settings_numbers) (sym (pick_true _ _ _ (eq-eqb _ _ e)) ∙ g)
  where
    never : (c : Checked) → first_of (c ∷ Err RetiredSetting ∷ []) ≡ Ok tt → ⊥
    never (Ok tt) o = omega (arith, ap answer_number o)
    never (Err r) o = let z : ◌≡◌ {A = ℕ} 0 1 = cc in omega arith

-- ---- what is read writes back the same bytes

module _ (file settings table : List ℕ) (g : check_reading file settings table ≡ Ok tt) (b : Bytes file) where
  abbrev lines-read : ℕ
  lines-read = file_lines file

  found : (check_fields file ≡ Ok tt) × (check_lines_read (file_text_length file) (file_entries file) ≡ Ok tt)
  unfolding check_reading
  found =
      let a = both-good (check_fields file) _ g in
      let b = both-good (check_settings (unretired (file_settings file))) _ a.1 in
      let c = both-good (check_retired (length settings) (file_settings file)) _ b.1 in
      let d = both-good (check_length (file_text_length file)) _ c.1 in
      let e = both-good (check_lines_read (file_text_length file) (file_entries file)) _ d.1 in
      (a.0, e.0)

  length_agrees : text_length (file_entries file) ≡ file_text_length file
  unfolding check_lines_read
  length_agrees =
      eqb-true _ _ (good-both (eqb (text_length (file_entries file)) (file_text_length file)) (check_entries (file_entries file)) (BadLine 0) found.1).0

  table_is_lem : entries_in lines-read (reading_table file settings table) ≡ file_entries file
  unfolding reading_table
  table_is_lem =
      rw g (ap (λ (n : ℕ). entries_in n (written table (of_all of_entry (file_entries file)))) (sym (entries_many file)) ∙ entries_written (file_entries file) table)

  -- The settings and the table that were read are those of exactly that file.
  pub writes_back : written_file (file_settings file) (reading_table file settings table) lines-read ≡ file
  unfolding written_file layout_file
  writes_back =
      ap (λ (es : List Entry). file_of (file_settings file) (text_length es) es) table_is_lem
      ∙ ap (λ (n : ℕ). file_of (file_settings file) n (file_entries file)) length_agrees
      ∙ file-written file found.0 b

  -- ---- and the writer takes them

  same_known : unretired (file_settings file) ≡ file_settings file
  unfolding check_reading
  same_known =
      let a = both-good (check_fields file) _ g in
      let b = both-good (check_settings (unretired (file_settings file))) _ a.1 in
      let c = both-good (check_retired (length settings) (file_settings file)) _ b.1 in
      sym (unretired-same (file_settings file) (retired_off (file_settings file) (length settings) c.0))

  pub settings-back : check_settings (file_settings file) ≡ Ok tt
  unfolding check_reading
  settings-back =
      let a = both-good (check_fields file) _ g in
      ap check_settings (sym same_known) ∙ (both-good (check_settings (unretired (file_settings file))) _ a.1).0

  fits : entry_numbers * file_lines file ≤ length table
  fits = lines_fit_lem file settings table (check_reading file settings table) refl _ refl g

  long : length (of_all of_entry (file_entries file)) ≤ length table
  long = omega (arith, entries_numbers (file_entries file), entries_many file, fits)

  pub table-back : check_table (file_lines file) (reading_table file settings table) ≡ Ok tt
  unfolding check_table reading_table check_lines_read
  table-back =
      let after = written table (of_all of_entry (file_entries file)) in
      let h : entry_numbers * file_lines file ≤ length after = omega (arith, fits, written-length table (of_all of_entry (file_entries file)) long) in
      rw g
      (pick_true _ _ _ (le-leb _ _ ((capacity_is entry_numbers (file_lines file) after (omega arith)).1 h))
      ∙ ap check_entries (rw g at table_is_lem)
      ∙ (good-both (eqb (text_length (file_entries file)) (file_text_length file)) (check_entries (file_entries file)) (BadLine 0) found.1).1)

  module _ (out : List ℕ) (h : length file ≤ length out) where
    writes_good : check_writing (file_settings file) (reading_table file settings table) (file_lines file) out ≡ Ok tt
    unfolding check_writing first_of
    writes_good = rw (settings-back, table-back, writes_back, sym (has_room (length out) (length file) h))

    pub back-answer : writing_answer (file_settings file) (reading_table file settings table) (file_lines file) out ≡ Ok (length file)
    unfolding writing_answer
    back-answer = rw writes_good (ap (λ (l : List ℕ). Ok (length l)) writes_back)

    pub back-file : writing_file (file_settings file) (reading_table file settings table) (file_lines file) out ≡ written out file
    unfolding writing_file
    back-file = rw writes_good (ap (written out) writes_back)
