-- A layout that travels, by the contracts of the calls: what one machine writes another reads back the same, what is read writes back
-- the same bytes, and a table that was a layout when it was written is that layout where it is read, as laying again asks (`EditOf`).
-- Assumes nothing.
use Rattle.std.specs.Prelude.{ℕ, ◌*◌, ◌≤◌, ◌≡◌, refl, List, [], ◌∷◌, length, take, drop, Err, Ok, Result}
use Rattle.meaning.specs.Refusals.{Checked}
use Rattle.meaning.specs.declared.answers.FileRead.{FileRead}
use Rattle.meaning.specs.declared.refusals.Refusal.{Refusal}
use Rattle.std.proofs.Common.{arith, sym, ◌∙◌, take_at}
use Rattle.std.proofs.Math.Path.{ap}
use contract.Lifetimes.{Lfts}
use Rattle.meaning.specs.Settings.{settings_of}
use Rattle.meaning.specs.Checks.{answered, afterwards, first_of, check_settings, check_room}
use Rattle.meaning.specs.Layout.{layout}
use Rattle.meaning.specs.Table.{entry_numbers, of_entry, of_all, written, entries_in}
use Rattle.meaning.specs.WellFormed.{text_length, check_table}
use Rattle.meaning.specs.LayoutFile.{settings_numbers, of_settings}
use Rattle.meaning.specs.ReadFile.{file_settings, file_text_length, file_lines, file_entries}
use Rattle.meaning.specs.Calls.{written_file, check_writing, writing_answer, writing_file, check_reading, reading_answer, reading_table, reading_settings}
use Rattle.meaning.specs.Answers.{answer_number, count_value, readingValue, readingLength}
use Rattle.meaning.specs.declared.settings.Settings.{Settings}
use Rattle.meaning.specs.declared.line.Entry.{Entry}
use Rattle.laws.specs.TableLaws.{entries_numbers, entries_length, written-length}
use Rattle.file_fields.specs.FileNumbers.{Bytes, Words}
use Rattle.files.specs.FileLaws.{SettingsWords}
use Rattle.files.specs.Tests.{both-good}
use Rattle.files.specs.ReadingCalls.{entries_many}
use Rattle.files.specs.RoundTrip.{Writable, read_answer, read_table, read_entries, read-settings, back-answer, back-file}
use Rattle.promises.specs.Passed.{Lent, LentNumber, LentMut}
use Rattle.promises.specs.CallContracts.{WriteFile, ReadFile, CWriteFile, CReadFile}
use Rattle.promises.specs.Unwritten.{refusal_some, writing_done}

-- ---- by the definitions

-- Where a file was written, nothing was refused, and its bytes stand at the buffer's front.
taken : (c : Checked) (xs f : List ℕ) (n : ℕ) → answered c (Ok (length xs)) Err ≡ Ok n
    → (c ≡ Ok tt) × (take n (afterwards c (written f xs) f) ≡ xs)
unfolding written
taken (Ok tt) xs f n e = (refl, take_at xs (drop (length xs) f) n (ap count_value e))
taken (Err r) xs f n e = absurd (refusal_some r (ap answer_number e))

module _ (s : Settings) (table : List ℕ) (lines : ℕ) (file : List ℕ) (n : ℕ) (e : writing_answer s table lines file ≡ Ok n) where
  was_written : (check_writing s table lines file ≡ Ok tt) × (take n (writing_file s table lines file) ≡ written_file s table lines)
  unfolding writing_answer writing_file
  was_written = taken (check_writing s table lines file) (written_file s table lines) file n e

  -- What was written can be read.
  writable : s.trailing ≡ 0 → SettingsWords s → Words table → Writable s table lines
  unfolding check_writing
  writable off sw tw =
      let a = both-good (check_settings s) _ was_written.0 in
      let b = both-good (check_table lines table) _ a.1 in
      record { settings = a.0; off = off; whole = b.0; settings-words = sw; table-words = tw }

-- What a reader has then: as many lines, the same text length, the same lines, the same settings.
pub record Arrived (s : Settings) (table : List ℕ) (lines : ℕ) (settings other : List ℕ) (z : Result FileRead Refusal) (handed rows : List ℕ) : Type 0 where
  pub answer : z ≡ Ok (record { lines = lines; bytes = text_length (entries_in lines table) })
  pub lines_same : entries_in lines rows ≡ entries_in lines table
  pub settings-same : handed ≡ written settings (of_settings s)
  pub holds : entry_numbers * lines ≤ length rows

arrived : (s : Settings) (table : List ℕ) (lines : ℕ) (w : Writable s table lines) (f settings other : List ℕ) → f ≡ written_file s table lines
    → settings_numbers ≤ length settings → entry_numbers * lines ≤ length other
    → Arrived s table lines settings other (reading_answer f settings other) (reading_settings f settings other) (reading_table f settings other)
arrived s table lines w f settings other q room fit =
    let es = entries_in lines table in
    let h : length (of_all of_entry es) ≤ length other = omega (arith, entries_numbers es, entries_length lines table) in
    rw q
    (record {
      answer = read_answer s table lines w settings other room fit;
      lines_same = read_entries s table lines w settings other room fit;
      settings-same = read-settings s table lines w settings other room fit;
      holds = rw (read_table s table lines w settings other room fit) (omega (arith, written-length other (of_all of_entry es) h));
    })

was_read : (c : Checked) (n : FileRead) → answer_number (answered c (Ok n) Err) ≡ 0 → c ≡ Ok tt
was_read (Ok tt) n e = refl
was_read (Err r) n e = absurd (refusal_some r e)

-- ---- what is written reads back the same

module _ (s : Settings) (table : Lent) (lines : ℕ) (out : LentMut) (file : Lent) (settings other : LentMut) (n : ℕ) (after : List ℕ)
    (off : s.trailing ≡ 0) (sw : SettingsWords s) (tw : Words table.now) (sent : file.now ≡ take n after)
    (room : settings_numbers ≤ length settings.now) (fit : entry_numbers * lines ≤ length other.now) where
  pub file-read-back : (κs : Lfts 2) (λs : Lfts 3) (z : Result FileRead Refusal) (handed rows : List ℕ)
      → WriteFile κs s table lines out (Ok n) after → ReadFile λs file settings other z handed rows
      → Arrived s table.now lines settings.now other.now z handed rows
  file-read-back κs λs z handed rows p q =
      let e = sym p.0 in
      let w = writable s table.now lines out.now n e off sw tw in
      let f = sent ∙ ap (take n) p.1 ∙ (was_written s table.now lines out.now n e).1 in
      rw (q.0, q.1.0, q.1.1) (arrived s table.now lines w file.now settings.now other.now f room fit)

  -- A table that was the layout of a text is its layout where it is read: what laying again is given there (`EditOf`).
  pub file_brings_layout : (κs : Lfts 2) (λs : Lfts 3) (z : Result FileRead Refusal) (handed rows old : List ℕ)
      → WriteFile κs s table lines out (Ok n) after → ReadFile λs file settings other z handed rows
      → entries_in lines table.now ≡ layout s old
      → (entry_numbers * lines ≤ length rows) × (entries_in lines rows ≡ layout s old)
  file_brings_layout κs λs z handed rows old p q h =
      let a = file-read-back κs λs z handed rows p q in
      (a.holds, a.lines_same ∙ h)

  -- For C: where the writer returns 0 and n bytes.
  pub c-file-read-back : (κs : Lfts 3) (λs : Lfts 5) (value first second : LentNumber) (z : ℕ) (handed rows : List ℕ) (count bytes : ℕ)
      → CWriteFile κs s table lines out value 0 after n → CReadFile λs file settings other first second z handed rows count bytes
      → (z ≡ 0) × (count ≡ lines) × (bytes ≡ text_length (entries_in lines table.now)) × (entries_in lines rows ≡ entries_in lines table.now)
      × (handed ≡ written settings.now (of_settings s)) × (entry_numbers * lines ≤ length rows)
  unfolding settings_of
  c-file-read-back κs λs value first second z handed rows count bytes p q =
      let answer = writing_answer s table.now lines out.now in
      let e = writing_done answer (sym p.0) ∙ ap Ok (sym p.1.1) in
      let w = writable s table.now lines out.now n e off sw tw in
      let f = sent ∙ ap (take n) p.1.0 ∙ (was_written s table.now lines out.now n e).1 in
      let a = arrived s table.now lines w file.now settings.now other.now f room fit in (
        q.0 ∙ ap answer_number a.answer,
        q.1.1.1.0 ∙ ap readingValue a.answer,
        q.1.1.1.1 ∙ ap (λ (x : Result FileRead Refusal). readingLength x second.now) a.answer,
        ap (entries_in lines) q.1.1.0 ∙ a.lines_same,
        q.1.0 ∙ a.settings-same,
        rw q.1.1.0 a.holds,
      )

  pub c-file_brings_layout : (κs : Lfts 3) (λs : Lfts 5) (value first second : LentNumber) (z : ℕ) (handed rows old : List ℕ) (count bytes : ℕ)
      → CWriteFile κs s table lines out value 0 after n → CReadFile λs file settings other first second z handed rows count bytes
      → entries_in lines table.now ≡ layout s old → (entry_numbers * lines ≤ length rows) × (entries_in lines rows ≡ layout s old)
  c-file_brings_layout κs λs value first second z handed rows old count bytes p q h =
      let a = c-file-read-back κs λs value first second z handed rows count bytes p q in
      (a.5, a.3 ∙ h)

-- ---- what is read writes back the same bytes

module _ (file : Lent) (settings table : LentMut) (again : Lent) (out : LentMut) (b : Bytes file.now) (fits : length file.now ≤ length out.now) where
  pub c-file-written-back : (κs : Lfts 5) (λs : Lfts 3) (value bytes other : LentNumber) (handed rows : List ℕ) (lines len z : ℕ)
      (after : List ℕ) (n : ℕ) → CReadFile κs file settings table value bytes 0 handed rows lines len → again.now ≡ rows
      → CWriteFile λs (file_settings file.now) again lines out other z after n
      → (z ≡ 0) × (n ≡ length file.now) × (after ≡ written out.now file.now)
  unfolding settings_of reading_answer
  c-file-written-back κs λs value bytes other handed rows lines len z after n p t q =
      let g = was_read (check_reading file.now settings.now table.now) (record { lines = length (file_entries file.now); bytes = file_text_length file.now }) (sym p.0) in
      let count : lines ≡ file_lines file.now =
      p.1.1.1.0 ∙ ap (λ (c : Checked). readingValue (answered c (Ok (record { lines = length (file_entries file.now); bytes = file_text_length file.now })) Err)) g ∙ entries_many file.now in
      let u : again.now ≡ reading_table file.now settings.now table.now = t ∙ p.1.1.0 in
      let s = file_settings file.now in
      let answer : writing_answer s again.now lines out.now ≡ Ok (length file.now) =
      rw (u, count) (back-answer file.now settings.now table.now g b out.now fits) in (
        q.0 ∙ ap answer_number answer,
        q.1.1 ∙ ap count_value answer,
        q.1.0 ∙ rw (u, count) (back-file file.now settings.now table.now g b out.now fits),
      )
