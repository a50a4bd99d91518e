-- The layout file as a whole: what is written reads back the same, and what is read writes back the same bytes.
-- Assumes nothing.
use Rattle.std.specs.Prelude.{ℕ, ◌+◌, ◌*◌, ◌≤◌, ◌<◌, ◌≡◌, true, ℤ, length, get_or, take, Err, Ok}
use Rattle.std.proofs.Math.Path.{sym, ap}
use Rattle.std.proofs.Common.{◌∙◌, arith, take_all, drop-drop}
use mathlib.Core.List.{List, ◌++◌}
use Rattle.std.specs.Int.Signed.{mag}
use Rattle.std.proofs.Math.ListN.{drop, length-append, length-drop}
use Rattle.basis.specs.Choice.{pick, pick_true, pick-false, by_test}
use Rattle.meaning.specs.Answers.{answer_number}
use Rattle.meaning.specs.Settings.{settings_of}
use Rattle.meaning.specs.Table.{of_all}
use Rattle.meaning.specs.LayoutFile.{header_bytes, number_bytes, settings_numbers, settings_tag, length_tag, settings_size, line_bytes, length_at, lines_at, frame_bytes, bytes_of, field, of_settings, settings_field, length_field, line_fields, file_of, file_bytes}
use Rattle.meaning.specs.ReadFile.{is_field, check_line_fields, check_fields, number_in, numbers_in, settings_in, file_settings, file_text_length, file_lines, file_entries}
use Rattle.meaning.specs.declared.settings.Settings.{Settings}
use Rattle.meaning.specs.declared.line.Entry.{Entry}
use Rattle.meaning.specs.declared.refusals.Refusal.TheVariants.{BadField}
use Rattle.laws.specs.TableLaws.{values-are}
use Rattle.file_fields.specs.FileNumbers.{Bytes, Words, number_read, number_bytes_lem, bytes_read, words-bytes, words-read, below-drop, below_at, numbers-count, numbers-small, numbers-written, signed_bits, bits_signed}
use Rattle.file_fields.specs.FileFields.{field_found, field-over, field-length, found, field-written, lines-length, lines-found, EntryWords, lines-read, Lined, good-lined}

-- ---- settings

-- Every setting has 32 bits, as all have that a caller passes.
pub record SettingsWords (s : Settings) : Type 0 where
  pub numbers : Words (of_settings s)
  pub top : mag s.top < 2147483648

settings-again : (s : Settings) → mag s.top < 2147483648 → settings_in (of_settings s) ≡ s
unfolding settings_in of_settings settings_of
settings-again s h =
    ap (λ (z : ℤ). settings_of s.glyph.0 s.width.0 s.tab.0 s.spacing.0 s.paragraph.0 s.base.0 s.height.0 z s.alignment s.vertical s.leading s.trailing s.wrap)
    (bits_signed s.top h)

pub numbers-again : (xs : List ℕ) → length xs ≡ settings_numbers → Words xs → of_settings (settings_in xs) ≡ xs
unfolding settings_in of_settings settings_of
numbers-again xs e b =
    rw (signed_bits (get_or xs 7 0) (below_at 4294967296 7 xs (omega arith) b))
    (values-are settings_numbers xs (omega arith) ∙ take_all settings_numbers xs (omega arith))

pub settings_body : (s : Settings) → length (of_all bytes_of (of_settings s)) ≡ settings_size
unfolding of_settings
settings_body s = words-bytes (of_settings s)

-- ---- what is written reads back the same

module _ (s : Settings) (n : ℕ) (es : List Entry) where
  abbrev file : List ℕ
  file = file_of s n es

  abbrev behind : List ℕ
  behind = length_field n ++ line_fields es

  pub file-length : length file ≡ file_bytes (length es)
  unfolding file_of settings_field length_field file_bytes
  file-length =
      length-append (settings_field s) behind
      ∙ omega (arith, length-append (length_field n) (line_fields es), field-length settings_tag (of_all bytes_of (of_settings s)), settings_body s, field-length length_tag (bytes_of n), number_bytes_lem n, lines-length es)

  few-lines : length es < length file
  unfolding file_bytes
  few-lines = omega (arith, file-length)

  past-settings : drop length_at file ≡ behind
  unfolding file_of settings_field
  past-settings = field-over settings_tag settings_size (of_all bytes_of (of_settings s)) behind (settings_body s)

  past-length : drop lines_at file ≡ line_fields es
  unfolding length_field
  past-length =
      sym (drop-drop (header_bytes + number_bytes) length_at file)
      ∙ ap (drop (header_bytes + number_bytes)) past-settings
      ∙ field-over length_tag number_bytes (bytes_of n) (line_fields es) (number_bytes_lem n)

  settings-found : is_field settings_tag settings_size file ≡ true
  unfolding file_of settings_field
  settings-found = field_found settings_tag settings_size (of_all bytes_of (of_settings s)) behind (settings_body s)

  length_found : is_field length_tag number_bytes (drop length_at file) ≡ true
  unfolding length_field
  length_found = rw past-settings (field_found length_tag number_bytes (bytes_of n) (line_fields es) (number_bytes_lem n))

  pub file-found : check_fields file ≡ Ok tt
  unfolding check_fields
  file-found =
      pick_true _ _ _ settings-found
      ∙ pick_true _ _ _ length_found
      ∙ rw past-length (lines-found es (length file) lines_at few-lines)

  pub settings-read : SettingsWords s → file_settings file ≡ s
  unfolding file_settings file_of settings_field field of_settings
  settings-read w = ap settings_in (words-read (of_settings s) behind w.numbers) ∙ settings-again s w.top

  pub length-read : n < 4294967296 → file_text_length file ≡ n
  unfolding file_text_length length_field field
  length-read h =
      ap number_in (sym (drop-drop header_bytes length_at file) ∙ ap (drop header_bytes) past-settings)
      ∙ number_read n (line_fields es) h

  pub lines-counted : file_lines file ≡ length es
  unfolding file_lines file_bytes
  lines-counted = rw file-length (omega arith)

  pub entries_read : EntryWords es → file_entries file ≡ es
  unfolding file_entries
  entries_read w = rw (lines-counted, past-length) (lines-read es w)

-- ---- what is read writes back the same bytes

module _ (f : List ℕ) (g : check_fields f ≡ Ok tt) where
  settings-there : is_field settings_tag settings_size f ≡ true
  unfolding check_fields
  settings-there =
      by_test (is_field settings_tag settings_size f) (λ e. e) (λ e. absurd (omega (arith, ap answer_number (sym (pick-false _ _ _ e) ∙ g))))

  behind-settings : pick (is_field length_tag number_bytes (drop length_at f)) (check_line_fields (length f) lines_at (drop lines_at f)) (Err (BadField length_at)) ≡ Ok tt
  unfolding check_fields
  behind-settings = sym (pick_true _ _ _ settings-there) ∙ g

  length-there : is_field length_tag number_bytes (drop length_at f) ≡ true
  length-there =
      by_test (is_field length_tag number_bytes (drop length_at f)) (λ e. e)
      (λ e. absurd (omega (arith, ap answer_number (sym (pick-false _ _ _ e) ∙ behind-settings))))

  lined : Lined (drop lines_at f)
  lined = good-lined (length f) lines_at (drop lines_at f) (sym (pick_true _ _ _ length-there) ∙ behind-settings)

  settings-whole : length_at ≤ length f
  settings-whole = (found settings_tag settings_size f settings-there).whole

  file-whole : length f ≡ frame_bytes + line_bytes * lined.count
  file-whole =
      omega (arith, length-drop lines_at f, lined.long, settings-whole, (found length_tag number_bytes (drop length_at f) length-there).whole, length-drop length_at f)

  lines_are : file_lines f ≡ lined.count
  unfolding file_lines
  lines_are = rw file-whole (omega arith)

  pub file-bytes : length f ≡ file_bytes (file_lines f)
  unfolding file_bytes
  file-bytes = rw lines_are file-whole

  module _ (b : Bytes f) where
    abbrev numbers : List ℕ
    numbers = numbers_in settings_numbers (drop header_bytes f)

    numbers-kept : of_settings (file_settings f) ≡ numbers
    unfolding file_settings
    numbers-kept =
        numbers-again numbers (numbers-count settings_numbers (drop header_bytes f))
        (numbers-small settings_numbers (drop header_bytes f) (below-drop 256 header_bytes f b))

    settings-written : settings_field (file_settings f) ++ drop length_at f ≡ f
    unfolding settings_field
    settings-written =
        ap (λ (body : List ℕ). field settings_tag body ++ drop length_at f)
        (ap (of_all bytes_of) numbers-kept
        ∙ numbers-written settings_numbers (drop header_bytes f) (omega (arith, length-drop header_bytes f, settings-whole)) (below-drop 256 header_bytes f b))
        ∙ field-written settings_tag settings_size f settings-there b

    length-written : length_field (file_text_length f) ++ drop lines_at f ≡ drop length_at f
    unfolding length_field file_text_length
    length-written =
        let at = drop length_at f in
        let c = below-drop 256 length_at f b in
        ap (λ (body : List ℕ). field length_tag body ++ drop lines_at f)
        (ap (λ (t : List ℕ). bytes_of (number_in t)) (sym (drop-drop header_bytes length_at f))
        ∙ bytes_read (drop header_bytes at) (omega (arith, length-drop header_bytes at, (found length_tag number_bytes at length-there).whole)) (below-drop 256 header_bytes at c))
        ∙ ap (λ (t : List ℕ). field length_tag (take number_bytes (drop header_bytes at)) ++ t) (sym (drop-drop (header_bytes + number_bytes) length_at f))
        ∙ field-written length_tag number_bytes at length-there c

    lines-written : line_fields (file_entries f) ≡ drop lines_at f
    unfolding file_entries
    lines-written = rw lines_are (lined.written (below-drop 256 lines_at f b))

    pub file-written : file_of (file_settings f) (file_text_length f) (file_entries f) ≡ f
    unfolding file_of
    file-written = rw (lines-written, length-written) settings-written
