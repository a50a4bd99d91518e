-- What is read from the bytes of a layout file: its fields, one after the other, of which the first fault decides (refusal 9, refusal 11),
-- and then its settings, its text's length and its lines (refusal 1, refusal 2, refusal 3, refusal 5, refusal 12).
-- Assumes nothing.
use Rattle.std.specs.Prelude.{ℕ, zero, suc, ◌+◌, ◌-◌, ◌*◌, ◌/◌, Bool, ◌&&◌, List, [], ◌∷◌, leb, ltb, eqb, ℤ, pos, negsuc, length, get_or, drop, Err, Ok}
use Rattle.meaning.specs.Refusals.{Checked}
use Rattle.basis.specs.Choice.{pick}
use Rattle.meaning.specs.Checks.{refuse_if, first_of, check_settings, check_room}
use Rattle.meaning.specs.Settings.{settings_of}
use Rattle.meaning.specs.Table.{entry_numbers, entry_in}
use Rattle.meaning.specs.WellFormed.{text_length, check_entries}
use Rattle.meaning.specs.LayoutFile.{header_bytes, number_bytes, settings_numbers, settings_tag, length_tag, line_tag, end_tag, settings_size, line_size, line_bytes, length_at, lines_at, frame_bytes}
use Rattle.meaning.specs.declared.settings.Settings.{Settings}
use Rattle.meaning.specs.declared.line.Entry.{Entry}
use Rattle.meaning.specs.declared.refusals.Refusal.TheVariants.{BadLine, BadField, OldEntry, RetiredSetting}

-- ---- fields

-- A line's length when lines had ten numbers.
abbrev pub old_line_size : ℕ
old_line_size = 40

-- Do the bytes begin with a whole field of this tag and this length. One that is cut short, header or body, is none.
unfoldable pub is_field : (tag size : ℕ) → List ℕ → Bool
is_field tag size f = leb (header_bytes + size) (length f) && eqb (get_or f 0 0) tag && eqb (get_or f 1 0 + 256 * get_or f 2 0) size

-- Nothing follows the end.
unfoldable pub check_end : (at : ℕ) → List ℕ → Checked
check_end at [] = Ok tt
check_end at (b ∷ f) = Err (BadField at)

-- Lines and the end, where the bytes f stand at an offset of the file. A whole line of the old length has a name of its own; any other
-- field in its place is bad, and so is none. `fuel` is as much as there are bytes.
unfoldable pub check_line_fields : (fuel at : ℕ) → List ℕ → Checked
check_line_fields zero at f = Err (BadField at)
check_line_fields (suc fuel) at f =
    let more = check_line_fields fuel (at + line_bytes) (drop line_bytes f) in
    pick (is_field line_tag line_size f) more
    (pick (is_field line_tag old_line_size f) (Err (OldEntry at))
    (pick (is_field end_tag 0 f) (check_end (at + header_bytes) (drop header_bytes f)) (Err (BadField at))))

-- 9 and 11: the settings, the text's length, lines, the end; nothing else, and in that order.
unfoldable pub check_fields : List ℕ → Checked
check_fields f =
    pick (is_field settings_tag settings_size f)
    (pick (is_field length_tag number_bytes (drop length_at f))
    (check_line_fields (length f) lines_at (drop lines_at f))
    (Err (BadField length_at)))
    (Err (BadField 0))

-- ---- numbers

-- The number of four bytes, the low byte first, and so many numbers one after the other.
unfoldable pub number_in : List ℕ → ℕ
number_in f = get_or f 0 0 + 256 * get_or f 1 0 + 65536 * get_or f 2 0 + 16777216 * get_or f 3 0

unfoldable pub numbers_in : (count : ℕ) → List ℕ → List ℕ
numbers_in zero f = []
numbers_in (suc n) f = number_in f ∷ numbers_in n (drop number_bytes f)

-- The signed number of 32 bits in two's complement (`negsuc n` is -(n + 1)).
unfoldable pub signed_of : ℕ → ℤ
signed_of n = pick (ltb n 2147483648) (pos n) (negsuc (4294967295 - n))

-- ---- what the fields hold, where they are good

-- The settings of thirteen numbers, and those of a file.
unfoldable pub settings_in : List ℕ → Settings
settings_in xs =
    settings_of (get_or xs 0 0) (get_or xs 1 0) (get_or xs 2 0) (get_or xs 3 0) (get_or xs 4 0) (get_or xs 5 0) (get_or xs 6 0) (signed_of (get_or xs 7 0))
    (get_or xs 8 0) (get_or xs 9 0) (get_or xs 10 0) (get_or xs 11 0) (get_or xs 12 0)

unfoldable pub file_settings : List ℕ → Settings
file_settings f = settings_in (numbers_in settings_numbers (drop header_bytes f))

-- The text's length.
unfoldable pub file_text_length : List ℕ → ℕ
file_text_length f = number_in (drop (length_at + header_bytes) f)

-- How many lines a file has, and the lines.
unfoldable pub file_lines : List ℕ → ℕ
file_lines f = (length f - frame_bytes) / line_bytes

unfoldable pub lines_in : (lines : ℕ) → List ℕ → List Entry
lines_in zero f = []
lines_in (suc n) f = entry_in (numbers_in entry_numbers (drop header_bytes f)) ∷ lines_in n (drop line_bytes f)

unfoldable pub file_entries : List ℕ → List Entry
file_entries f = lines_in (file_lines f) (drop lines_at f)

-- ---- the tests of what they hold

-- Settings without the trailing spaces that are retired: a 1 there becomes a 0, anything else stays.
unfoldable pub unretired : Settings → Settings
unretired s =
    pick (eqb s.trailing 1)
    (settings_of s.glyph.0 s.width.0 s.tab.0 s.spacing.0 s.paragraph.0 s.base.0 s.height.0 s.top
    s.alignment s.vertical s.leading 0 s.wrap)
    s

-- 12: the retired setting is on. The other settings are then handed out, where there is room for them: else 8.
unfoldable pub check_retired : (room : ℕ) → Settings → Checked
check_retired room s = pick (eqb s.trailing 1) (first_of (check_room room settings_numbers ∷ Err RetiredSetting ∷ [])) (Ok tt)

-- 5: no line, or lines of a text of another length, are bad at line 0; then the first bad line.
unfoldable pub check_lines_read : (bytes : ℕ) → List Entry → Checked
check_lines_read n es = pick (eqb (text_length es) n) (check_entries es) (Err (BadLine 0))
