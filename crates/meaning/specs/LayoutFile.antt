-- The layout file: the bytes that settings and a table are written as. It is a row of fields, each a tag, a length and so many bytes:
-- the settings (tag 1), the text's length (tag 2), each line (tag 3), the end (tag 255).
-- Assumes nothing.
use Rattle.std.specs.Prelude.{ℕ, ◌+◌, ◌-◌, ◌*◌, ◌/◌, ◌%◌, List, [], ◌∷◌, ◌++◌, ℤ, pos, negsuc, length}
use Rattle.meaning.specs.Table.{entry_numbers, of_entry, of_all}
use Rattle.meaning.specs.WellFormed.{text_length}
use Rattle.meaning.specs.declared.settings.Settings.{Settings}
use Rattle.meaning.specs.declared.line.Entry.{Entry}

-- ---- sizes in bytes, and tags

-- A field's tag and length; a number.
abbrev pub header_bytes : ℕ
header_bytes = 3

abbrev pub number_bytes : ℕ
number_bytes = 4

abbrev pub settings_numbers : ℕ
settings_numbers = 13

abbrev pub settings_tag : ℕ
settings_tag = 1

abbrev pub length_tag : ℕ
length_tag = 2

abbrev pub line_tag : ℕ
line_tag = 3

abbrev pub end_tag : ℕ
end_tag = 255

-- How many bytes follow the header of the settings and of a line.
abbrev pub settings_size : ℕ
settings_size = number_bytes * settings_numbers

abbrev pub line_size : ℕ
line_size = number_bytes * entry_numbers

-- A line's field with its header.
abbrev pub line_bytes : ℕ
line_bytes = header_bytes + line_size

-- Where the text's length stands, and the first line; the bytes of a file that has no line.
abbrev pub length_at : ℕ
length_at = header_bytes + settings_size

abbrev pub lines_at : ℕ
lines_at = length_at + (header_bytes + number_bytes)

abbrev pub frame_bytes : ℕ
frame_bytes = lines_at + header_bytes

-- ---- numbers and fields

-- A number of 32 bits in four bytes, the low byte first.
unfoldable pub bytes_of : ℕ → List ℕ
bytes_of n = n % 256 ∷ n / 256 % 256 ∷ n / 65536 % 256 ∷ n / 16777216 % 256 ∷ []

-- A signed number's 32 bits: a negative one in two's complement (`negsuc n` is -(n + 1)).
unfoldable pub bits_of : ℤ → ℕ
bits_of (pos n) = n
bits_of (negsuc n) = 4294967295 - n

-- A tag of one byte, a length of two with the low byte first, and so many bytes.
unfoldable pub field : (tag : ℕ) → List ℕ → List ℕ
field tag body = tag ∷ length body % 256 ∷ length body / 256 ∷ body

-- ---- the file

-- The settings as thirteen numbers, in the scope's order and the wrap setting last.
unfoldable pub of_settings : Settings → List ℕ
of_settings s =
    s.glyph.0 ∷ s.width.0 ∷ s.tab.0 ∷ s.spacing.0 ∷ s.paragraph.0 ∷ s.base.0 ∷ s.height.0 ∷ bits_of s.top
    ∷ s.alignment ∷ s.vertical ∷ s.leading ∷ s.trailing ∷ s.wrap ∷ []

unfoldable pub settings_field : Settings → List ℕ
settings_field s = field settings_tag (of_all bytes_of (of_settings s))

unfoldable pub length_field : ℕ → List ℕ
length_field n = field length_tag (bytes_of n)

unfoldable pub line_field : Entry → List ℕ
line_field e = field line_tag (of_all bytes_of (of_entry e))

-- The lines, and the end behind them.
unfoldable pub line_fields : List Entry → List ℕ
line_fields [] = field end_tag []
line_fields (e ∷ es) = line_field e ++ line_fields es

-- The file of settings, a text's length and lines; and that of settings and a table, whose text has the length that the table says.
unfoldable pub file_of : Settings → (bytes : ℕ) → List Entry → List ℕ
file_of s n es = settings_field s ++ (length_field n ++ line_fields es)

unfoldable pub layout_file : Settings → List Entry → List ℕ
layout_file s es = file_of s (text_length es) es

-- How many bytes that is.
unfoldable pub file_bytes : (lines : ℕ) → ℕ
file_bytes n = frame_bytes + line_bytes * n
