-- Layout files, computed: the smallest one byte by byte, and which files are refused, and why.
-- Refusal 1, refusal 2, refusal 3, refusal 5, refusal 8, refusal 9, refusal 11, refusal 12.
-- Assumes nothing.
use Rattle.std.specs.Prelude.{ℕ, ◌≡◌, refl, List, [], ◌∷◌, ◌++◌, map, negsuc, Err, Result, Ok}
use Rattle.meaning.specs.declared.answers.FileRead.{FileRead}
use Rattle.meaning.specs.declared.refusals.Refusal.{Refusal}
use Rattle.basis.specs.Choice.{pick}
use Rattle.meaning.specs.Settings.{top_in_range, sizes_in_range, in_range, settings_of}
use Rattle.meaning.specs.Checks.{refuse_if, first_of, check_settings, check_length, check_room}
use Rattle.meaning.specs.Layout.{layout}
use Rattle.meaning.specs.Table.{of_entry, of_all, capacity_of, entry_in, written}
use Rattle.meaning.specs.WellFormed.{last_reach, text_length, start_good, no_rest, rest_good, ending_good, count_good, entry_good, check_lines, check_entries}
use Rattle.meaning.specs.LayoutFile.{bytes_of, bits_of, field, of_settings, settings_field, length_field, line_field, line_fields, file_of, layout_file}
use Rattle.meaning.specs.ReadFile.{is_field, check_end, check_line_fields, check_fields, number_in, numbers_in, signed_of, settings_in, file_settings, file_text_length, file_lines, lines_in, file_entries, unretired, check_retired, check_lines_read}
use Rattle.meaning.specs.Calls.{check_reading, reading_answer, handed_out, reading_settings}
use Rattle.meaning.specs.Examples.{lines_of}
use Rattle.meaning.specs.declared.settings.Settings.{Settings}
use Rattle.meaning.specs.declared.refusals.Refusal.TheVariants.{SettingOutOfRange, UnknownAlignment, TextTooLong, BadLine, TooSmall, BadField, OldEntry, RetiredSetting}

-- Thirteen different numbers, but for those that can only be few; the box top is -5.
abbrev known : Settings
known = settings_of 6 30 24 10 3 8 40 (negsuc 4) 1 2 1 0 0

-- The same as bytes, with any glyph, alignment and trailing setting.
abbrev settings_bytes : (glyph alignment trailing : ℕ) → List ℕ
settings_bytes glyph alignment trailing =
    1 ∷ 52 ∷ 0 ∷ glyph ∷ 0 ∷ 0 ∷ 0 ∷ 30 ∷ 0 ∷ 0 ∷ 0 ∷ 24 ∷ 0 ∷ 0 ∷ 0 ∷ 10 ∷ 0 ∷ 0 ∷ 0 ∷ 3 ∷ 0 ∷ 0 ∷ 0 ∷ 8 ∷ 0 ∷ 0 ∷ 0 ∷ 40 ∷ 0 ∷ 0 ∷ 0
    ∷ 251 ∷ 255 ∷ 255 ∷ 255 ∷ alignment ∷ 0 ∷ 0 ∷ 0 ∷ 2 ∷ 0 ∷ 0 ∷ 0 ∷ 1 ∷ 0 ∷ 0 ∷ 0 ∷ trailing ∷ 0 ∷ 0 ∷ 0 ∷ 0 ∷ 0 ∷ 0 ∷ 0 ∷ []

abbrev length_bytes : (low middle high : ℕ) → List ℕ
length_bytes low middle high = 2 ∷ 4 ∷ 0 ∷ low ∷ middle ∷ high ∷ 0 ∷ []

-- A line by its start, end type and reach, with as many characters before it as bytes.
abbrev line_bytes : (start ending reach : ℕ) → List ℕ
line_bytes start ending reach =
    3 ∷ 44 ∷ 0 ∷ start ∷ 0 ∷ 0 ∷ 0 ∷ 0 ∷ 0 ∷ 0 ∷ 0 ∷ 0 ∷ 0 ∷ 0 ∷ 0 ∷ ending ∷ 0 ∷ 0 ∷ 0 ∷ 15 ∷ 0 ∷ 0 ∷ 0 ∷ 6 ∷ 0 ∷ 0 ∷ 0 ∷ 0 ∷ 0 ∷ 0 ∷ 0
    ∷ 0 ∷ 0 ∷ 0 ∷ 0 ∷ 0 ∷ 0 ∷ 0 ∷ 0 ∷ reach ∷ 0 ∷ 0 ∷ 0 ∷ start ∷ 0 ∷ 0 ∷ 0 ∷ []

-- The header of a line as it was with ten numbers.
abbrev old_line : List ℕ
old_line = 3 ∷ 40 ∷ 0 ∷ []

abbrev end_bytes : List ℕ
end_bytes = 255 ∷ 0 ∷ 0 ∷ []

abbrev smallest : List ℕ
smallest = settings_bytes 6 1 0 ++ (length_bytes 0 0 0 ++ (line_bytes 0 2 1 ++ end_bytes))

-- The layout of no text is the smallest file.
unfoldable pub smallest_written : List ℕ
unfolding lines_of last_reach text_length bytes_of bits_of field of_settings settings_of of_entry of_all settings_field length_field line_field line_fields file_of layout_file
smallest_written = layout_file known (layout known [])

pub smallest-holds : smallest_written ≡ smallest
unfolding smallest_written
smallest-holds = refl

-- ---- what is answered

abbrev ten_zeros : List ℕ
ten_zeros = 0 ∷ 0 ∷ 0 ∷ 0 ∷ 0 ∷ 0 ∷ 0 ∷ 0 ∷ 0 ∷ 0 ∷ []

abbrev thirteen_nines : List ℕ
thirteen_nines = 9 ∷ 9 ∷ 9 ∷ 9 ∷ 9 ∷ 9 ∷ 9 ∷ 9 ∷ 9 ∷ 9 ∷ 9 ∷ 9 ∷ 9 ∷ []

-- A table of two lines' room, and more.
abbrev roomy : List ℕ
roomy = ten_zeros ++ (ten_zeros ++ ten_zeros)

pub record FileExample : Type 0 where
  pub file : List ℕ
  pub settings : List ℕ
  pub table : List ℕ
  pub answer : Result FileRead Refusal

abbrev reads : List ℕ → List ℕ → List ℕ → Result FileRead Refusal → FileExample
reads file settings table answer = record { file = file; settings = settings; table = table; answer = answer }

abbrev pub file_examples : List FileExample
file_examples =
    reads smallest thirteen_nines roomy (Ok (record { lines = 1; bytes = 0 }))
    -- 9 at the file's length where a field is missing: the settings, the text's length, the end
    ∷ reads [] thirteen_nines roomy (Err (BadField 0))
    ∷ reads (settings_bytes 6 1 0) thirteen_nines roomy (Err (BadField 55))
    ∷ reads (settings_bytes 6 1 0 ++ length_bytes 0 0 0) thirteen_nines roomy (Err (BadField 62))
    -- and at the field that stands in its place; a header that is cut short
    ∷ reads (length_bytes 0 0 0) thirteen_nines roomy (Err (BadField 0))
    ∷ reads (settings_bytes 6 1 0 ++ end_bytes) thirteen_nines roomy (Err (BadField 55))
    ∷ reads (settings_bytes 6 1 0 ++ (length_bytes 0 0 0 ++ (3 ∷ 44 ∷ []))) thirteen_nines roomy (Err (BadField 62))
    -- a wrong length with the bytes exchanged; a line of no number
    ∷ reads (settings_bytes 6 1 0 ++ (length_bytes 0 0 0 ++ (3 ∷ 0 ∷ 40 ∷ []))) thirteen_nines roomy (Err (BadField 62))
    ∷ reads (settings_bytes 6 1 0 ++ (length_bytes 0 0 0 ++ (3 ∷ 0 ∷ 0 ∷ end_bytes))) thirteen_nines roomy (Err (BadField 62))
    -- 11: a line of ten numbers, whole and in its place; cut short it is 9
    ∷ reads (settings_bytes 6 1 0 ++ (length_bytes 0 0 0 ++ (old_line ++ (ten_zeros ++ (ten_zeros ++ (ten_zeros ++ ten_zeros)))))) thirteen_nines roomy
    (Err (OldEntry 62))
    ∷ reads (settings_bytes 6 1 0 ++ (length_bytes 0 0 0 ++ (old_line ++ (ten_zeros ++ (ten_zeros ++ ten_zeros))))) thirteen_nines roomy
    (Err (BadField 62))
    -- a length behind a line; a second text's length
    ∷ reads (settings_bytes 6 1 0 ++ (length_bytes 0 0 0 ++ (length_bytes 0 0 0 ++ end_bytes))) thirteen_nines roomy (Err (BadField 62))
    -- a byte behind the end
    ∷ reads (settings_bytes 6 1 0 ++ (length_bytes 0 0 0 ++ (255 ∷ 0 ∷ 0 ∷ 0 ∷ []))) thirteen_nines roomy (Err (BadField 65))
    -- fields before settings, 1 before 2 before 12, and 8 with 13 in 12's place
    ∷ reads (settings_bytes 0 4 1 ++ (length_bytes 0 0 1 ++ (255 ∷ []))) thirteen_nines roomy (Err (BadField 62))
    ∷ reads (settings_bytes 0 4 1 ++ (length_bytes 0 0 1 ++ end_bytes)) thirteen_nines roomy (Err SettingOutOfRange)
    ∷ reads (settings_bytes 6 4 1 ++ (length_bytes 0 0 1 ++ end_bytes)) thirteen_nines roomy (Err (UnknownAlignment 4))
    ∷ reads (settings_bytes 6 1 1 ++ (length_bytes 0 0 1 ++ end_bytes)) thirteen_nines roomy (Err RetiredSetting)
    ∷ reads (settings_bytes 6 1 1 ++ (length_bytes 0 0 1 ++ end_bytes)) ten_zeros roomy (Err (TooSmall 13))
    ∷ reads (settings_bytes 6 1 2 ++ (length_bytes 0 0 1 ++ end_bytes)) ten_zeros roomy (Err SettingOutOfRange)
    -- then the text's length, then the lines: none, a length that disagrees before any bad line, the first bad line
    ∷ reads (settings_bytes 6 1 0 ++ (length_bytes 0 0 1 ++ end_bytes)) ten_zeros [] (Err (TextTooLong 65536))
    ∷ reads (settings_bytes 6 1 0 ++ (length_bytes 255 255 0 ++ end_bytes)) ten_zeros [] (Err (BadLine 0))
    ∷ reads (settings_bytes 6 1 0 ++ (length_bytes 0 0 0 ++ end_bytes)) ten_zeros [] (Err (BadLine 0))
    ∷ reads (settings_bytes 6 1 0 ++ (length_bytes 2 0 0 ++ (line_bytes 0 3 2 ++ (line_bytes 1 3 2 ++ end_bytes)))) ten_zeros [] (Err (BadLine 0))
    ∷ reads (settings_bytes 6 1 0 ++ (length_bytes 1 0 0 ++ (line_bytes 0 3 2 ++ (line_bytes 1 3 2 ++ end_bytes)))) ten_zeros [] (Err (BadLine 1))
    -- then the room: of the settings first
    ∷ reads (settings_bytes 6 1 0 ++ (length_bytes 1 0 0 ++ (line_bytes 0 3 2 ++ (line_bytes 1 2 2 ++ end_bytes)))) ten_zeros [] (Err (TooSmall 13))
    ∷ reads (settings_bytes 6 1 0 ++ (length_bytes 1 0 0 ++ (line_bytes 0 3 2 ++ (line_bytes 1 2 2 ++ end_bytes)))) thirteen_nines ten_zeros (Err (TooSmall 2))
    ∷ reads (settings_bytes 6 1 0 ++ (length_bytes 1 0 0 ++ (line_bytes 0 3 2 ++ (line_bytes 1 2 2 ++ end_bytes)))) thirteen_nines roomy (Ok (record { lines = 2; bytes = 1 }))
    ∷ []

unfoldable pub file_found : FileExample → FileExample
unfolding pick top_in_range sizes_in_range in_range settings_of refuse_if first_of check_settings check_length check_room capacity_of entry_in last_reach text_length start_good no_rest rest_good ending_good count_good entry_good check_lines check_entries is_field check_end check_line_fields check_fields number_in numbers_in signed_of settings_in file_settings file_text_length file_lines lines_in file_entries unretired check_retired check_lines_read check_reading reading_answer
file_found x = reads x.file x.settings x.table (reading_answer x.file x.settings x.table)

pub files_hold : map file_found file_examples ≡ file_examples
unfolding file_found
files_hold = refl

-- ---- the settings that go with 12: the same with a 0 for the trailing spaces; with any other refusal none do

unfoldable pub settings_handed : (glyph trailing : ℕ) → List ℕ
unfolding file_found bits_of of_settings written handed_out reading_settings
settings_handed glyph trailing =
    reading_settings (settings_bytes glyph 1 trailing ++ (length_bytes 0 0 1 ++ end_bytes)) (thirteen_nines ++ (7 ∷ [])) roomy

pub handed_hold : settings_handed 6 1 ∷ settings_handed 6 0 ∷ settings_handed 0 1 ∷ []
    ≡ (6 ∷ 30 ∷ 24 ∷ 10 ∷ 3 ∷ 8 ∷ 40 ∷ 4294967291 ∷ 1 ∷ 2 ∷ 1 ∷ 0 ∷ 0 ∷ 7 ∷ []) ∷ (thirteen_nines ++ (7 ∷ [])) ∷ (thirteen_nines ++ (7 ∷ [])) ∷ []
unfolding settings_handed
handed_hold = refl
