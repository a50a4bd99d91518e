-- Computed examples of the rules that no layout shows: tokens, the cursor's moves, bad tables, height and y, and the order of the
-- refusals. A table of each kind, and one theorem over it.
-- Assumes nothing.
use Rattle.std.specs.Prelude.{ℕ, ◌≡◌, refl, List, [], ◌∷◌, map, ℤ, pos, negsuc, Err, Ok, Result}
use Rattle.meaning.specs.Refusals.{Checked}
use Rattle.meaning.specs.declared.refusals.Refusal.{Refusal}
use Prim.Native.String.{String}
use Rattle.basis.specs.Choice.{pick}
use Rattle.utf8.specs.WellFormed.{well_formed, rows, fits, some_fits}
use Rattle.utf8.specs.Decoding.{seq_len, value, char_of, decode_head, decode_after, decode_all, valid_prefix}
use Rattle.meaning.specs.Settings.{top_in_range, sizes_in_range, in_range}
use Rattle.meaning.specs.Checks.{refuse_if, first_of, check_settings, check_length, check_utf8, check_room}
use Rattle.meaning.specs.Tokens.{tokens, ranged}
use Rattle.meaning.specs.Cursor.{move_by, tab_width}
use Rattle.meaning.specs.Layout.{layout}
use Rattle.meaning.specs.Table.{of_token, capacity_of, entry_in, entries_in}
use Rattle.meaning.specs.WellFormed.{last_reach, text_length, start_good, no_rest, rest_good, ending_good, count_good, entry_good, check_lines, check_entries, check_table}
use Rattle.meaning.specs.Height.{end_adds, height_adds, height_from, height_of, offset_of, added_before, y_of}
use Rattle.meaning.specs.Calls.{text_rows, text_entries, check_layout, layout_answer}
use Rattle.meaning.specs.Examples.{codes, lines_of}
use Rattle.meaning.specs.declared.settings.Settings.{Settings}
use Rattle.meaning.specs.declared.cursor.LineCursor.{LineCursor}
use Rattle.meaning.specs.declared.cursor.Moved.TheVariants.{By, Room}
use Rattle.meaning.specs.declared.refusals.Refusal.TheVariants.{SettingOutOfRange, UnknownAlignment, NotUtf8, BadLine, TooSmall}

-- ---- tokens: kind, start, end, count (rule 2 and rule 3)

pub record TokenExample : Type 0 where
  pub text : String
  pub found : List (List ℕ)

abbrev tokens_are : String → List (List ℕ) → TokenExample
tokens_are t ts = record { text = t; found = ts }

abbrev pub token_examples : List TokenExample
token_examples =
    -- space, U+200B, space: one Whitespace(2)
    tokens_are " \u{200b} " ((3 ∷ 0 ∷ 5 ∷ 2 ∷ []) ∷ [])
    -- U+200B at a token's start is Whitespace(0) by itself
    ∷ tokens_are "a\u{200b}\u{200b} b" ((4 ∷ 0 ∷ 1 ∷ 0 ∷ []) ∷ (3 ∷ 1 ∷ 4 ∷ 0 ∷ []) ∷ (3 ∷ 4 ∷ 7 ∷ 0 ∷ []) ∷ (3 ∷ 7 ∷ 8 ∷ 1 ∷ []) ∷ (4 ∷ 8 ∷ 9 ∷ 0 ∷ []) ∷ [])
    -- LF, CR, tab and U+00AD are single; U+00A0 is part of a word; U+3000 is a space like any other
    ∷ tokens_are "\n\r\t\u{ad}" ((0 ∷ 0 ∷ 1 ∷ 0 ∷ []) ∷ (1 ∷ 1 ∷ 2 ∷ 0 ∷ []) ∷ (2 ∷ 2 ∷ 3 ∷ 0 ∷ []) ∷ (5 ∷ 3 ∷ 5 ∷ 0 ∷ []) ∷ [])
    ∷ tokens_are "\u{a0}é\u{3000}\u{2003}" ((4 ∷ 0 ∷ 4 ∷ 0 ∷ []) ∷ (3 ∷ 4 ∷ 10 ∷ 2 ∷ []) ∷ [])
    -- so are U+2007 and U+202F part of a word, by themselves and behind a space, but not the spaces beside them in Unicode
    ∷ tokens_are "12\u{202f}345" ((4 ∷ 0 ∷ 8 ∷ 0 ∷ []) ∷ [])
    ∷ tokens_are " \u{202f}\u{2007}\u{a0} " ((3 ∷ 0 ∷ 1 ∷ 1 ∷ []) ∷ (4 ∷ 1 ∷ 9 ∷ 0 ∷ []) ∷ (3 ∷ 9 ∷ 10 ∷ 1 ∷ []) ∷ [])
    ∷ tokens_are "\u{2006}\u{2008}\u{2029}\u{205f}" ((3 ∷ 0 ∷ 12 ∷ 4 ∷ []) ∷ [])
    ∷ []

unfoldable pub tokens_found : TokenExample → TokenExample
unfolding lines_of codes ranged of_token
tokens_found x = tokens_are x.text (map of_token (ranged 0 (tokens (codes x.text))))

-- ---- the cursor (rule 4)

abbrev cursor_at : (position : ℕ) → LineCursor
cursor_at p = record { width = record { 0 = 30 }; position = record { 0 = p }; tab = record { 0 = 24 }; start = record { 0 = 0 } }

-- From 10, minus 11 answers a refused -10 and stays; as far as either end of the line a move goes; one pixel more answers the room
-- and the edge.
pub moves_hold : move_by (cursor_at 10) (negsuc 10) ∷ move_by (cursor_at 10) (negsuc 9) ∷ move_by (cursor_at 10) (pos 20) ∷ move_by (cursor_at 10) (pos 21) ∷ []
    ≡ Room (negsuc 9) (cursor_at 10) ∷ By (negsuc 9) (cursor_at 0) ∷ By (pos 20) (cursor_at 30) ∷ Room (pos 20) (cursor_at 30) ∷ []
unfolding move_by lines_of
moves_hold = refl

-- The next multiple above the position, and 0 where tabs are 0 wide.
pub tabs_hold : tab_width (cursor_at 0) ∷ tab_width (cursor_at 23) ∷ tab_width (cursor_at 24)
    ∷ tab_width (record { width = record { 0 = 30 }; position = record { 0 = 7 }; tab = record { 0 = 0 }; start = record { 0 = 0 } }) ∷ []
    ≡ 24 ∷ 1 ∷ 24 ∷ 0 ∷ []
unfolding lines_of
tabs_hold = refl

-- ---- tables (refusal 5)

pub record TableExample : Type 0 where
  pub lines : ℕ
  pub table : List ℕ
  pub verdict : Checked

abbrev table_is : ℕ → List ℕ → Checked → TableExample
table_is n t v = record { lines = n; table = t; verdict = v }

-- A line by its start, rest end, rest count, end type, reach and the characters before it; and one with a character to a byte.
abbrev counted : (start end count ending reach before : ℕ) → List ℕ → List ℕ
counted start end count ending reach before more = start ∷ end ∷ count ∷ ending ∷ 0 ∷ 6 ∷ 0 ∷ 0 ∷ 0 ∷ reach ∷ before ∷ more

abbrev entry : (start end count ending reach : ℕ) → List ℕ → List ℕ
entry start end count ending reach = counted start end count ending reach start

abbrev pub table_examples : List TableExample
table_examples =
    table_is 2 (entry 0 0 0 3 7 (entry 4 6 2 2 8 [])) (Ok tt)
    -- no line, more lines than the table holds, a last reach of 0 or past 65,536
    ∷ table_is 0 (entry 0 0 0 2 1 []) (Err (BadLine 0))
    ∷ table_is 2 (entry 0 0 0 2 1 []) (Err (BadLine 0))
    ∷ table_is 1 (entry 0 0 0 2 0 []) (Err (BadLine 0))
    ∷ table_is 1 (entry 0 0 0 2 65537 []) (Err (BadLine 0))
    ∷ table_is 1 (entry 0 0 0 2 65536 []) (Ok tt)
    -- a first start that is not 0, a start that does not rise, one past the reach before it, one past the text
    ∷ table_is 1 (entry 1 0 0 2 8 []) (Err (BadLine 0))
    ∷ table_is 2 (entry 0 0 0 3 7 (entry 0 0 0 2 8 [])) (Err (BadLine 1))
    ∷ table_is 2 (entry 0 0 0 3 3 (entry 4 0 0 2 8 [])) (Err (BadLine 1))
    ∷ table_is 2 (entry 0 0 0 3 8 (entry 8 0 0 2 8 [])) (Err (BadLine 1))
    -- end types: 2 on the last line and only there, none above 3
    ∷ table_is 2 (entry 0 0 0 2 7 (entry 4 0 0 2 8 [])) (Err (BadLine 0))
    ∷ table_is 2 (entry 0 0 0 3 7 (entry 4 0 0 3 8 [])) (Err (BadLine 1))
    ∷ table_is 2 (entry 0 0 0 4 7 (entry 4 0 0 2 8 [])) (Err (BadLine 0))
    -- a reach past the last one
    ∷ table_is 2 (entry 0 0 0 3 9 (entry 4 0 0 2 8 [])) (Err (BadLine 0))
    -- a rest on line 0; at its start; past the reach before it; past the text; of more than its bytes; a count and no end
    ∷ table_is 1 (entry 0 2 1 2 8 []) (Err (BadLine 0))
    ∷ table_is 2 (entry 0 0 0 3 7 (entry 4 4 0 2 8 [])) (Err (BadLine 1))
    ∷ table_is 2 (entry 0 0 0 3 5 (entry 4 6 2 2 8 [])) (Err (BadLine 1))
    ∷ table_is 2 (entry 0 0 0 3 8 (entry 4 8 2 2 8 [])) (Err (BadLine 1))
    ∷ table_is 2 (entry 0 0 0 3 7 (entry 4 6 3 2 8 [])) (Err (BadLine 1))
    ∷ table_is 2 (entry 0 0 0 3 7 (entry 4 0 1 2 8 [])) (Err (BadLine 1))
    -- characters before a line: from one up to its bytes; not 0 before line 0; not risen; above the bytes before the line
    ∷ table_is 2 (entry 0 0 0 3 7 (counted 4 0 0 2 8 1 [])) (Ok tt)
    ∷ table_is 2 (counted 0 0 0 3 7 1 (entry 4 0 0 2 8 [])) (Err (BadLine 0))
    ∷ table_is 2 (entry 0 0 0 3 7 (counted 4 0 0 2 8 0 [])) (Err (BadLine 1))
    ∷ table_is 3 (entry 0 0 0 3 7 (counted 4 0 0 3 7 2 (counted 5 0 0 2 8 2 []))) (Err (BadLine 2))
    ∷ table_is 2 (entry 0 0 0 3 7 (counted 4 0 0 2 8 5 [])) (Err (BadLine 1))
    ∷ []

unfoldable pub table_found : TableExample → TableExample
unfolding pick capacity_of entry_in entries_in last_reach text_length start_good no_rest rest_good ending_good count_good entry_good check_lines check_entries check_table
table_found x = table_is x.lines x.table (check_table x.lines x.table)

pub tables_hold : map table_found table_examples ≡ table_examples
unfolding table_found
tables_hold = refl

-- ---- height and y (rule 11): spacing 10, paragraph 3, base 8, a box 40 high at -5

abbrev pub standing : (height vertical : ℕ) → Settings
standing height vertical =
    record {
      glyph = record { 0 = 6 };
      width = record { 0 = 30 };
      tab = record { 0 = 24 };
      spacing = record { 0 = 10 };
      paragraph = record { 0 = 3 };
      base = record { 0 = 8 };
      height = record { 0 = height };
      top = negsuc 4;
      alignment = 0;
      vertical = vertical;
      leading = 1;
      trailing = 0;
      wrap = 0;
    }

pub record HeightExample : Type 0 where
  pub settings : Settings
  pub text : String
  pub height : ℕ
  pub first : ℤ
  pub second : ℤ

abbrev stands : Settings → String → ℕ → ℤ → ℤ → HeightExample
stands s t h y z = record { settings = s; text = t; height = h; first = y; second = z }

abbrev pub height_examples : List HeightExample
height_examples =
    stands (standing 40 0) "aa\nbb" 21 (negsuc 4) (pos 8)
    ∷ stands (standing 40 1) "aa\nbb" 21 (pos 4) (pos 17)
    ∷ stands (standing 40 2) "aa\nbb" 21 (pos 14) (pos 27)
    -- half of -21 toward zero is -10
    ∷ stands (standing 0 1) "aa\nbb" 21 (negsuc 14) (negsuc 1)
    -- a carriage return keeps the same y
    ∷ stands (standing 40 0) "aa\rbb" 8 (negsuc 4) (negsuc 4)
    -- a LineBreak counts, but not before an empty last line; there the line's y counts it all the same
    ∷ stands (standing 40 0) "aaaaab" 18 (negsuc 4) (pos 5)
    ∷ stands (standing 40 0) "     ab" 8 (negsuc 4) (pos 5)
    ∷ []

unfoldable pub height_found : HeightExample → HeightExample
unfolding lines_of codes last_reach text_length end_adds height_adds height_from height_of offset_of added_before y_of
height_found x =
    let es = layout x.settings (codes x.text) in
    stands x.settings x.text (height_of x.settings es) (y_of x.settings 0 es) (y_of x.settings 1 es)

pub heights_hold : map height_found height_examples ≡ height_examples
unfolding height_found
heights_hold = refl

-- ---- the order of the refusals, by the fresh layout

abbrev pub set : (glyph alignment vertical : ℕ) → Settings
set glyph alignment vertical =
    record {
      glyph = record { 0 = glyph };
      width = record { 0 = 30 };
      tab = record { 0 = 24 };
      spacing = record { 0 = 10 };
      paragraph = record { 0 = 3 };
      base = record { 0 = 8 };
      height = record { 0 = 40 };
      top = pos 0;
      alignment = alignment;
      vertical = vertical;
      leading = 1;
      trailing = 0;
      wrap = 0;
    }

pub record CallExample : Type 0 where
  pub settings : Settings
  pub text : List ℕ
  pub table : List ℕ
  pub answer : Result ℕ Refusal

abbrev answers : Settings → List ℕ → List ℕ → Result ℕ Refusal → CallExample
answers s t table a = record { settings = s; text = t; table = table; answer = a }

abbrev pub eleven : List ℕ
eleven = 1 ∷ 2 ∷ 3 ∷ 4 ∷ 5 ∷ 6 ∷ 7 ∷ 8 ∷ 9 ∷ 10 ∷ 11 ∷ []

abbrev pub call_examples : List CallExample
call_examples =
    -- a setting out of range before an unknown alignment; the horizontal alignment before the vertical; settings before text
    answers (set 0 4 3) (0xFF ∷ []) [] (Err SettingOutOfRange)
    ∷ answers (set 65 4 3) (0xFF ∷ []) [] (Err SettingOutOfRange)
    ∷ answers (set 6 4 3) (0xFF ∷ []) [] (Err (UnknownAlignment 4))
    ∷ answers (set 6 3 3) (0xFF ∷ []) [] (Err (UnknownAlignment 3))
    -- text before room: "a", the first byte of a character, and nothing after it
    ∷ answers (set 6 3 2) (0x61 ∷ 0xC3 ∷ []) [] (Err (NotUtf8 (record { 0 = 1 })))
    ∷ answers (set 6 3 2) (0x61 ∷ []) [] (Err (TooSmall 1))
    ∷ answers (set 6 3 2) (0x61 ∷ 0x0A ∷ []) eleven (Err (TooSmall 2))
    ∷ answers (set 6 3 2) (0x61 ∷ []) eleven (Ok 1)
    ∷ []

unfoldable pub call_found : CallExample → CallExample
unfolding lines_of well_formed rows fits some_fits seq_len value char_of decode_head decode_after decode_all valid_prefix top_in_range sizes_in_range in_range refuse_if first_of check_settings check_length check_utf8 check_room capacity_of text_rows text_entries check_layout layout_answer
call_found x = answers x.settings x.text x.table (layout_answer x.settings x.text x.table)

pub calls_hold : map call_found call_examples ≡ call_examples
unfolding call_found
calls_hold = refl
