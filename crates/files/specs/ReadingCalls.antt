-- The tests of a file that is read, in their order, what they give, and what is answered in each case.
-- Refusal 1, refusal 2, refusal 3, refusal 5, refusal 8, refusal 9, refusal 11, refusal 12.
-- Assumes nothing.
use Prim.Native.Nat.{ℕ, zero, suc, ◌+◌, ◌*◌, ◌≤◌}
use Rattle.meaning.specs.Refusals.{Checked}
use Rattle.meaning.specs.declared.answers.FileRead.{FileRead}
use Rattle.std.specs.Prelude.{◌≡◌, drop, Err, Ok, Result}
use Rattle.std.proofs.Math.Path.{refl, sym, ap}
use Rattle.std.proofs.Common.{◌∙◌, arith, eq-eqb, ne_eqb}
use mathlib.Core.List.{List, [], ◌∷◌}
use Rattle.std.proofs.Math.ListN.{length}
use Rattle.basis.specs.Choice.{pick_true, pick-false, pick_cases}
use Rattle.meaning.specs.Refusals.{number_of}
use Rattle.meaning.specs.Checks.{refuse_if, first_of, check_settings, check_length, check_room}
use Rattle.meaning.specs.Table.{entry_numbers, of_entry, of_all, capacity_of, written}
use Rattle.meaning.specs.WellFormed.{Before, nothing, line, text_length, check_lines, check_entries}
use Rattle.meaning.specs.LayoutFile.{line_bytes, length_at, lines_at, settings_numbers, of_settings, file_bytes}
use Rattle.meaning.specs.ReadFile.{check_end, check_line_fields, check_fields, file_settings, file_text_length, file_lines, lines_in, file_entries, unretired, check_retired, check_lines_read}
use Rattle.meaning.specs.Calls.{check_reading, reading_answer, reading_table, handed_out, reading_settings}
use Rattle.meaning.specs.declared.settings.Settings.{Settings}
use Rattle.meaning.specs.declared.line.Entry.{Entry}
use Rattle.meaning.specs.declared.refusals.Refusal.{Refusal}
use Rattle.meaning.specs.declared.refusals.Refusal.TheVariants.{SettingOutOfRange, UnknownAlignment, TextTooLong, NotUtf8, BadLine, BadEdit, TooSmall, BadField, BadIndex, OldEntry, RetiredSetting}
use Rattle.laws.specs.TableLaws.{capacity_is}
use Rattle.laws.specs.TestOrder.{first_alone, first-refused, first_good}
use Rattle.files.specs.FileLaws.{file-bytes}
use Rattle.laws.specs.GoodChecks.{room-is}
use Rattle.files.specs.Tests.{stops, passes, both-good}
use Rattle.files.specs.Reading.{lines-count, text_tests}
use Rattle.files.specs.Known.{known_tests}

-- ---- the order of the tests

-- The tests of what the fields hold, where the fields are good.
unfoldable pub check_contents : (file settings table : List ℕ) → Checked
check_contents file settings table =
    let s = file_settings file in
    first_of
    (check_settings (unretired s) ∷ check_retired (length settings) s ∷ check_length (file_text_length file)
    ∷ check_lines_read (file_text_length file) (file_entries file) ∷ check_room (length settings) settings_numbers
    ∷ check_room (capacity_of entry_numbers table) (length (file_entries file)) ∷ [])

abbrev pub room_tests : (settings table : List ℕ) → (lines : ℕ) → Checked
room_tests settings table lines =
    first_of (check_room (length settings) settings_numbers ∷ check_room (capacity_of entry_numbers table) lines ∷ [])

module _ (settings table : List ℕ) (lines : ℕ) where
  pub rooms_refused : (r : Refusal) → check_room (length settings) settings_numbers ≡ Err r → Err r ≡ room_tests settings table lines
  rooms_refused r e = sym (stops (check_room (length settings) settings_numbers) (check_room (capacity_of entry_numbers table) lines ∷ []) r e)

  pub rooms_good : check_room (length settings) settings_numbers ≡ Ok tt
      → check_room (capacity_of entry_numbers table) lines ≡ room_tests settings table lines
  rooms_good e =
      sym (passes (check_room (length settings) settings_numbers) (check_room (capacity_of entry_numbers table) lines ∷ []) e
      ∙ first_alone (check_room (capacity_of entry_numbers table) lines))

module _ (file settings table : List ℕ) where
  pub fields_refused : (r : Refusal) → check_fields file ≡ Err r → Err r ≡ check_reading file settings table
  unfolding check_reading
  fields_refused r e = sym (stops (check_fields file) _ r e)

  pub contents_decide : check_fields file ≡ Ok tt → check_contents file settings table ≡ check_reading file settings table
  unfolding check_reading check_contents
  contents_decide e = sym (passes (check_fields file) _ e)

  abbrev s : Settings
  s = file_settings file

  abbrev n : ℕ
  n = file_text_length file

  abbrev es : List Entry
  es = file_entries file

  abbrev known : Checked
  known = known_tests s (length settings)

  pub known-stops : (r : Refusal) → known ≡ Err r → Err r ≡ check_contents file settings table
  unfolding check_contents
  known-stops r e = sym (first-refused (check_settings (unretired s)) (check_retired (length settings) s) _ r e)

  module _ (k : known ≡ Ok tt) where
    behind-known : check_contents file settings table
        ≡ first_of (check_length n ∷ check_lines_read n es ∷ check_room (length settings) settings_numbers
        ∷ check_room (capacity_of entry_numbers table) (length es) ∷ [])
    unfolding check_contents
    behind-known = first_good (check_settings (unretired s)) (check_retired (length settings) s) _ k

    module _ (lines : ℕ) (q : lines ≡ file_lines file) where
      counted : lines_in lines (drop lines_at file) ≡ es
      unfolding file_entries
      counted = ap (λ (m : ℕ). lines_in m (drop lines_at file)) q

      many : length es ≡ lines
      many = ap length (sym counted) ∙ lines-count lines (drop lines_at file)

      told : text_tests n es ≡ text_tests n (lines_in lines (drop lines_at file))
      told = ap (text_tests n) (sym counted)

      pub text-stops : (r : Refusal) → text_tests n (lines_in lines (drop lines_at file)) ≡ Err r → Err r ≡ check_contents file settings table
      text-stops r e = sym (behind-known ∙ first-refused (check_length n) (check_lines_read n es) _ r (told ∙ e))

      pub rooms_decide : text_tests n (lines_in lines (drop lines_at file)) ≡ Ok tt → room_tests settings table lines ≡ check_contents file settings table
      rooms_decide e =
          ap (room_tests settings table) (sym many) ∙ sym (behind-known ∙ first_good (check_length n) (check_lines_read n es) _ (told ∙ e))

-- ---- how long a file is whose fields are good

module _ (file : List ℕ) (g : check_fields file ≡ Ok tt) where
  pub file_framed : lines_at + line_bytes * file_lines file + 3 ≡ length file
  unfolding file_bytes
  file_framed = omega (arith, file-bytes file g)

  pub lines-inside : lines_at + line_bytes * file_lines file ≤ length file
  lines-inside = omega (arith, file_framed)

pub entries_many : (file : List ℕ) → length (file_entries file) ≡ file_lines file
unfolding file_entries
entries_many file = lines-count (file_lines file) (drop lines_at file)

-- ---- when settings are handed out

-- There are settings, and room for them.
abbrev pub Room : (file settings : List ℕ) → Type 0
Room file settings = (length_at ≤ length file) × (settings_numbers ≤ length settings)

abbrev pub HandsOut : Checked → (file settings : List ℕ) → Type 0
HandsOut (Ok tt) file settings = Room file settings
HandsOut (Err r) file settings = number_of r ≡ 12 → Room file settings

module _ (file settings : List ℕ) where
  -- The same of a test that others may follow.
  abbrev Allows : Checked → Type 0
  Allows (Ok tt) = Unit {0}
  Allows (Err r) = number_of r ≡ 12 → Room file settings

  no_twelve : (m : ℕ) → (m ≡ 12 → ⊥) → m ≡ 12 → Room file settings
  no_twelve m d e = absurd (d e)

  first_hands : (c : Checked) (cs : List Checked) → Allows c → (c ≡ Ok tt → HandsOut (first_of cs) file settings) → HandsOut (first_of (c ∷ cs)) file settings
  unfolding first_of
  first_hands (Ok tt) cs a f = f refl
  first_hands (Err r) cs a f = a

  end_allows : (at : ℕ) (f : List ℕ) → Allows (check_end at f)
  unfolding check_end
  end_allows at [] = tt
  end_allows at (x ∷ f) = λ e. absurd (omega (arith, e))

  lines_allow : (fuel at : ℕ) (f : List ℕ) → Allows (check_line_fields fuel at f)
  unfolding check_line_fields
  lines_allow zero at f = λ e. absurd (omega (arith, e))
  lines_allow (suc fuel) at f =
      pick_cases Allows _ (λ t. lines_allow fuel (at + line_bytes) (drop line_bytes f))
      (λ t. pick_cases Allows _ (λ u e. absurd (omega (arith, e)))
      (λ u. pick_cases Allows _ (λ v. end_allows (at + 3) (drop 3 f)) (λ v e. absurd (omega (arith, e)))))

  fields_allow : (f : List ℕ) → Allows (check_fields f)
  unfolding check_fields
  fields_allow f =
      pick_cases Allows _
      (λ t. pick_cases Allows _ (λ u. lines_allow (length f) lines_at (drop lines_at f)) (λ u e. absurd (omega (arith, e))))
      (λ t e. absurd (omega (arith, e)))

  settings_allow : (s : Settings) → Allows (check_settings s)
  unfolding check_settings
  settings_allow s =
      pick_cases Allows _
      (λ t. pick_cases Allows _ (λ u. pick_cases Allows _ (λ v. tt) (λ v e. absurd (omega (arith, e)))) (λ u e. absurd (omega (arith, e))))
      (λ t e. absurd (omega (arith, e)))

  length_allows : (n : ℕ) → Allows (check_length n)
  unfolding check_length refuse_if
  length_allows n = pick_cases Allows _ (λ t e. absurd (omega (arith, e))) (λ t. tt)

  room_allows : (a b : ℕ) → Allows (check_room a b)
  unfolding check_room refuse_if
  room_allows a b = pick_cases Allows _ (λ t e. absurd (omega (arith, e))) (λ t. tt)

  each_allows : (n k : ℕ) (b : Before) (es : List Entry) → Allows (check_lines n k b es)
  unfolding check_lines
  each_allows n k b [] = tt
  each_allows n k b (e ∷ es) =
      pick_cases Allows _ (λ t. each_allows n (suc k) (line e.start.0 e.reach.0 e.before.0) es) (λ t o. absurd (omega (arith, o)))

  read_allows : (n : ℕ) (es : List Entry) → Allows (check_lines_read n es)
  unfolding check_lines_read check_entries
  read_allows n es =
      pick_cases Allows _
      (λ t. pick_cases Allows _ (λ u. each_allows (text_length es) 0 nothing es) (λ u e. absurd (omega (arith, e))))
      (λ t e. absurd (omega (arith, e)))

  -- Refusal 12 is given where there is room alone.
  retired_room : length_at ≤ length file → (c : Checked) → check_room (length settings) settings_numbers ≡ c → Allows c
      → Allows (first_of (c ∷ Err RetiredSetting ∷ []))
  unfolding first_of
  retired_room h (Ok tt) e a = λ o. (h, room-is (length settings) settings_numbers e)
  retired_room h (Err r) e a = a

  retired_allows : length_at ≤ length file → (s : Settings) → Allows (check_retired (length settings) s)
  unfolding check_retired
  retired_allows h s =
      pick_cases Allows _
      (λ t. retired_room h (check_room (length settings) settings_numbers) refl (room_allows (length settings) settings_numbers))
      (λ t. tt)

  pub hands_out : (table : List ℕ) → HandsOut (check_reading file settings table) file settings
  unfolding check_reading first_of
  hands_out table =
      let s = file_settings file in
      let n = file_text_length file in
      let es = file_entries file in
      let table-test = check_room (capacity_of entry_numbers table) (length es) in
      let rooms = check_room (length settings) settings_numbers ∷ table-test ∷ [] in
      let from-lines = check_lines_read n es ∷ rooms in
      let from-length = check_length n ∷ from-lines in
      let from-retired = check_retired (length settings) s ∷ from-length in
      first_hands (check_fields file) (check_settings (unretired s) ∷ from-retired) (fields_allow file)
      (λ g. let h : length_at ≤ length file = omega (arith, lines-inside file g) in
      first_hands (check_settings (unretired s)) from-retired (settings_allow (unretired s))
      (λ a. first_hands (check_retired (length settings) s) from-length (retired_allows h s)
      (λ b. first_hands (check_length n) from-lines (length_allows n)
      (λ c. first_hands (check_lines_read n es) rooms (read_allows n es)
      (λ d. first_hands (check_room (length settings) settings_numbers) (table-test ∷ []) (room_allows (length settings) settings_numbers)
      (λ e. first_hands table-test [] (room_allows (capacity_of entry_numbers table) (length es))
      (λ f. (h, room-is (length settings) settings_numbers e))))))))

-- What is handed out by a check.
module _ (c : Checked) (new old : List ℕ) where
  pub handed-good : c ≡ Ok tt → new ≡ handed_out c new old
  unfolding handed_out
  handed-good e = rw e

  module _ (r : Refusal) (e : c ≡ Err r) where
    pub handed_retired : number_of r ≡ 12 → new ≡ handed_out c new old
    unfolding handed_out
    handed_retired h = rw e (sym (pick_true _ _ _ (eq-eqb _ _ h)))

    pub handed-none : (number_of r ≡ 12 → ⊥) → old ≡ handed_out c new old
    unfolding handed_out
    handed-none h = rw e (sym (pick-false _ _ _ (ne_eqb _ _ h)))

-- Refusal 12 is that of a retired setting.
pub retired-number : (r : Refusal) → r ≡ RetiredSetting → number_of r ≡ 12
retired-number r e = rw e

pub other-number : (r : Refusal) → (r ≡ RetiredSetting → ⊥) → number_of r ≡ 12 → ⊥
other-number SettingOutOfRange d h = omega (arith, h)
other-number (UnknownAlignment a) d h = omega (arith, h)
other-number (TextTooLong n) d h = omega (arith, h)
other-number (NotUtf8 n) d h = omega (arith, h)
other-number (BadLine k) d h = omega (arith, h)
other-number BadEdit d h = omega (arith, h)
other-number (TooSmall n) d h = omega (arith, h)
other-number (BadField at) d h = omega (arith, h)
other-number (BadIndex n) d h = omega (arith, h)
other-number (OldEntry at) d h = omega (arith, h)
other-number RetiredSetting d h = d refl

-- ---- the answers

module _ (file settings table : List ℕ) where
  abbrev handed : List ℕ
  handed = written settings (of_settings (unretired (file_settings file)))

  -- What the call answers, and the settings and the table afterwards.
  abbrev pub Read : Result FileRead Refusal → (after rows : List ℕ) → Type 0
  Read answer after rows =
      (answer ≡ reading_answer file settings table)
      × ((after ≡ reading_settings file settings table) × (rows ≡ reading_table file settings table))

  module _ (c : Checked) (q : c ≡ check_reading file settings table) (after : List ℕ) (a : after ≡ handed_out c handed settings) where
    handed-is : after ≡ reading_settings file settings table
    unfolding reading_settings
    handed-is = a ∙ ap (λ (k : Checked). handed_out k handed settings) q

    pub reading_refused : (r : Refusal) → c ≡ Err r → Read (Err r) after table
    unfolding reading_answer reading_table
    reading_refused r e =
        let o : check_reading file settings table ≡ Err r = sym q ∙ e in
        (rw o, (handed-is, rw o))

    module _ (g : c ≡ Ok tt) where
      all-good : check_reading file settings table ≡ Ok tt
      all-good = sym q ∙ g

      after_fields : (check_fields file ≡ Ok tt) × (check_contents file settings table ≡ Ok tt)
      unfolding check_reading check_contents
      after_fields = both-good (check_fields file) _ all-good

      pub fields_good : check_fields file ≡ Ok tt
      fields_good = after_fields.0

      pub lines_fit_lem : entry_numbers * file_lines file ≤ length table
      unfolding check_contents
      lines_fit_lem =
          let s = file_settings file in
          let n = file_text_length file in
          let es = file_entries file in
          let a = both-good (check_settings (unretired s)) _ after_fields.1 in
          let b = both-good (check_retired (length settings) s) _ a.1 in
          let c = both-good (check_length n) _ b.1 in
          let d = both-good (check_lines_read n es) _ c.1 in
          let e = both-good (check_room (length settings) settings_numbers) _ d.1 in
          let f = both-good (check_room (capacity_of entry_numbers table) (length es)) [] e.1 in
          let m : length es ≡ file_lines file = entries_many file in
          (capacity_is entry_numbers (file_lines file) table (omega arith)).0
          (rw (← m) (room-is (capacity_of entry_numbers table) (length es) f.0))

      pub reading_done : (lines bytes : ℕ) → lines ≡ file_lines file → bytes ≡ file_text_length file → (rows : List ℕ)
          → rows ≡ written table (of_all of_entry (lines_in lines (drop lines_at file))) → Read (Ok (record { lines = lines; bytes = bytes })) after rows
      unfolding reading_answer reading_table file_entries
      reading_done lines bytes l b rows w =
          let m : lines ≡ length (file_entries file) = l ∙ sym (entries_many file) in (
            rw all-good (λ i. Ok (record { lines = m i; bytes = b i })),
            (
              handed-is,
              rw all-good (w ∙ ap (λ (k : ℕ). written table (of_all of_entry (lines_in k (drop lines_at file)))) l),
            ),
          )
