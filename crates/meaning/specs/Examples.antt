-- The scope's examples of layouts, computed: one table, and one theorem over it (rule 8, rule 10, rule 12, rule 13).
-- Assumes nothing.
use Rattle.std.specs.Prelude.{ℕ, ◌≡◌, refl, List, [], ◌∷◌, map, length, pos}
use Prim.Native.Char.{code}
use Prim.Native.String.{String}
use Prim.Native.String as string
use Rattle.basis.specs.Choice.{pick}
use Rattle.utf8.specs.Encoding.{bytes, size}
use Rattle.utf8.specs.WhiteSpace.{white_spaces, member, is_white}
use Rattle.meaning.specs.Characters.{glue, class_of, in_word, in_run}
use Rattle.meaning.specs.Tokens.{run, after, ender, counted, first, others, tokens_by, tokens, chars_of, size_of, ender_of, need_of}
use Rattle.meaning.specs.Cursor.{room_of, fits_in, advance, has_moved, tab_width}
use Rattle.meaning.specs.SpaceConfig.{spaces_width, spaces_after}
use Rattle.meaning.specs.Alignment.{plain_spaces, justified, place}
use Rattle.meaning.specs.Lookahead.{goes_on, next_fits, added, next_width}
use Rattle.meaning.specs.Words.{grow, stretches, glues, printed_first, drawn_stretches, drawn_word}
use Rattle.meaning.specs.LineIter.{skips, draws_space, when, cut_run, on_space, on_tab, hyphenated, on_break, unfit_word, cut_word, on_word, step, process}
use Rattle.meaning.specs.Line.{measured, held_tokens, line_tokens, start_place, measuring, placing, line_of, lay_line, rest_of, entry_at, events_at}
use Rattle.meaning.specs.Layout.{row_at, unless_ended, rows_by, most_lines, rows, layout, all_events, layout_events}
use Rattle.meaning.specs.Table.{of_entry, of_event}
use Rattle.meaning.specs.declared.settings.Settings.{Settings}

-- The characters of a quoted text.
unfoldable pub codes : String → List ℕ
codes string.[] = []
codes (string.◌∷◌ c s) = code c ∷ codes s

-- The settings that a layout depends on, but for the tab, which is 24 wide. What height and y take plays no part.
abbrev pub laid_out : (glyph width alignment leading wrap : ℕ) → Settings
laid_out glyph width alignment leading wrap =
    record {
      glyph = record { 0 = glyph };
      width = record { 0 = width };
      tab = record { 0 = 24 };
      spacing = record { 0 = 0 };
      paragraph = record { 0 = 0 };
      base = record { 0 = 1 };
      height = record { 0 = 0 };
      top = pos 0;
      alignment = alignment;
      vertical = 0;
      leading = leading;
      trailing = 0;
      wrap = wrap;
    }

-- The examples' settings: glyph 6, left, leading on, wrap off; and with words that wait.
abbrev pub box : ℕ → Settings
box w = laid_out 6 w 0 1 0

abbrev pub waiting_box : ℕ → Settings
waiting_box w = laid_out 6 w 0 1 1

-- Justified, leading off.
abbrev pub justified_box : ℕ → Settings
justified_box w = laid_out 6 w 3 0 0

-- A text in a box, the eleven numbers of each of its lines, and the six of each of its events.
pub record Example : Type 0 where
  pub settings : Settings
  pub text : String
  pub lines : List (List ℕ)
  pub events : List (List ℕ)

abbrev example : Settings → String → List (List ℕ) → List (List ℕ) → Example
example s t ls es = record { settings = s; text = t; lines = ls; events = es }

-- A line: start, rest end, rest count, end type, left, space width, extra, width, dropped, reach, characters before.
-- An event: kind (0 space, 1 printed, 2 move), start, end, count, width, pen.
abbrev pub examples : List Example
examples =
    -- one line, no events
    example (box 30) "" ((0 ∷ 0 ∷ 0 ∷ 2 ∷ 0 ∷ 6 ∷ 0 ∷ 0 ∷ 0 ∷ 1 ∷ 0 ∷ []) ∷ []) []
    -- a space 30 wide, "ab" dropped, an empty last line at 7
    ∷ example (box 30) "     ab"
    ((0 ∷ 0 ∷ 0 ∷ 3 ∷ 0 ∷ 6 ∷ 0 ∷ 0 ∷ 2 ∷ 8 ∷ 0 ∷ []) ∷ (7 ∷ 0 ∷ 0 ∷ 2 ∷ 0 ∷ 6 ∷ 0 ∷ 0 ∷ 0 ∷ 8 ∷ 7 ∷ []) ∷ [])
    ((0 ∷ 0 ∷ 5 ∷ 5 ∷ 30 ∷ 0 ∷ []) ∷ [])
    -- a word wider than the box
    ∷ example (box 30) "abcdefg"
    ((0 ∷ 0 ∷ 0 ∷ 3 ∷ 0 ∷ 6 ∷ 0 ∷ 30 ∷ 0 ∷ 8 ∷ 0 ∷ []) ∷ (5 ∷ 0 ∷ 0 ∷ 2 ∷ 0 ∷ 6 ∷ 0 ∷ 12 ∷ 0 ∷ 8 ∷ 5 ∷ []) ∷ [])
    ((1 ∷ 0 ∷ 5 ∷ 0 ∷ 30 ∷ 0 ∷ []) ∷ (1 ∷ 5 ∷ 7 ∷ 0 ∷ 12 ∷ 0 ∷ []) ∷ [])
    -- no character fits, and one does
    ∷ example (box 5) "abc"
    ((0 ∷ 0 ∷ 0 ∷ 3 ∷ 0 ∷ 6 ∷ 0 ∷ 0 ∷ 3 ∷ 4 ∷ 0 ∷ []) ∷ (3 ∷ 0 ∷ 0 ∷ 2 ∷ 0 ∷ 6 ∷ 0 ∷ 0 ∷ 0 ∷ 4 ∷ 3 ∷ []) ∷ [])
    []
    ∷ example (box 6) "abc"
    ((0 ∷ 0 ∷ 0 ∷ 3 ∷ 0 ∷ 6 ∷ 0 ∷ 6 ∷ 0 ∷ 4 ∷ 0 ∷ []) ∷ (1 ∷ 0 ∷ 0 ∷ 3 ∷ 0 ∷ 6 ∷ 0 ∷ 6 ∷ 0 ∷ 4 ∷ 1 ∷ [])
    ∷ (2 ∷ 0 ∷ 0 ∷ 2 ∷ 0 ∷ 6 ∷ 0 ∷ 6 ∷ 0 ∷ 4 ∷ 2 ∷ []) ∷ [])
    ((1 ∷ 0 ∷ 1 ∷ 0 ∷ 6 ∷ 0 ∷ []) ∷ (1 ∷ 1 ∷ 2 ∷ 0 ∷ 6 ∷ 0 ∷ []) ∷ (1 ∷ 2 ∷ 3 ∷ 0 ∷ 6 ∷ 0 ∷ []) ∷ [])
    -- a cut space run: the second line starts at 4 with a rest of two spaces
    ∷ example (box 18) "abc   d"
    ((0 ∷ 0 ∷ 0 ∷ 3 ∷ 0 ∷ 6 ∷ 0 ∷ 18 ∷ 0 ∷ 7 ∷ 0 ∷ []) ∷ (4 ∷ 6 ∷ 2 ∷ 2 ∷ 0 ∷ 6 ∷ 0 ∷ 18 ∷ 0 ∷ 8 ∷ 4 ∷ []) ∷ [])
    ((1 ∷ 0 ∷ 3 ∷ 0 ∷ 18 ∷ 0 ∷ []) ∷ (0 ∷ 4 ∷ 6 ∷ 2 ∷ 12 ∷ 0 ∷ []) ∷ (1 ∷ 6 ∷ 7 ∷ 0 ∷ 6 ∷ 12 ∷ []) ∷ [])
    -- a tab that does not fit carries pen and cursor to the edge, so "x" waits for the second line
    ∷ example (box 30) "abcd\tx"
    ((0 ∷ 0 ∷ 0 ∷ 3 ∷ 0 ∷ 6 ∷ 0 ∷ 24 ∷ 0 ∷ 7 ∷ 0 ∷ []) ∷ (5 ∷ 0 ∷ 0 ∷ 2 ∷ 0 ∷ 6 ∷ 0 ∷ 6 ∷ 0 ∷ 7 ∷ 5 ∷ []) ∷ [])
    ((1 ∷ 0 ∷ 4 ∷ 0 ∷ 24 ∷ 0 ∷ []) ∷ (2 ∷ 4 ∷ 5 ∷ 0 ∷ 6 ∷ 24 ∷ []) ∷ (1 ∷ 5 ∷ 6 ∷ 0 ∷ 6 ∷ 0 ∷ []) ∷ [])
    -- on an empty line such a tab leaves no room for "x": it is dropped, or with words that wait it waits, since the cursor has moved
    ∷ example (box 20) "\tx"
    ((0 ∷ 0 ∷ 0 ∷ 3 ∷ 0 ∷ 6 ∷ 0 ∷ 0 ∷ 1 ∷ 3 ∷ 0 ∷ []) ∷ (2 ∷ 0 ∷ 0 ∷ 2 ∷ 0 ∷ 6 ∷ 0 ∷ 0 ∷ 0 ∷ 3 ∷ 2 ∷ []) ∷ [])
    ((2 ∷ 0 ∷ 1 ∷ 0 ∷ 20 ∷ 0 ∷ []) ∷ [])
    ∷ example (waiting_box 20) "\tx"
    ((0 ∷ 0 ∷ 0 ∷ 3 ∷ 0 ∷ 6 ∷ 0 ∷ 0 ∷ 0 ∷ 3 ∷ 0 ∷ []) ∷ (1 ∷ 0 ∷ 0 ∷ 2 ∷ 0 ∷ 6 ∷ 0 ∷ 6 ∷ 0 ∷ 3 ∷ 1 ∷ []) ∷ [])
    ((2 ∷ 0 ∷ 1 ∷ 0 ∷ 20 ∷ 0 ∷ []) ∷ (1 ∷ 1 ∷ 2 ∷ 0 ∷ 6 ∷ 0 ∷ []) ∷ [])
    -- a soft hyphen: not needed; printed; and kept for the next line, which a "-" leaves empty
    ∷ example (box 24) "ab\u{ad}cd"
    ((0 ∷ 0 ∷ 0 ∷ 2 ∷ 0 ∷ 6 ∷ 0 ∷ 24 ∷ 0 ∷ 7 ∷ 0 ∷ []) ∷ [])
    ((1 ∷ 0 ∷ 2 ∷ 0 ∷ 12 ∷ 0 ∷ []) ∷ (1 ∷ 4 ∷ 6 ∷ 0 ∷ 12 ∷ 12 ∷ []) ∷ [])
    ∷ example (box 23) "ab\u{ad}cd"
    ((0 ∷ 0 ∷ 0 ∷ 3 ∷ 0 ∷ 6 ∷ 0 ∷ 18 ∷ 0 ∷ 7 ∷ 0 ∷ []) ∷ (4 ∷ 0 ∷ 0 ∷ 2 ∷ 0 ∷ 6 ∷ 0 ∷ 12 ∷ 0 ∷ 7 ∷ 3 ∷ []) ∷ [])
    ((1 ∷ 0 ∷ 2 ∷ 0 ∷ 12 ∷ 0 ∷ []) ∷ (1 ∷ 2 ∷ 4 ∷ 0 ∷ 6 ∷ 12 ∷ []) ∷ (1 ∷ 4 ∷ 6 ∷ 0 ∷ 12 ∷ 0 ∷ []) ∷ [])
    ∷ example (box 17) "ab\u{ad}cd"
    ((0 ∷ 0 ∷ 0 ∷ 3 ∷ 0 ∷ 6 ∷ 0 ∷ 12 ∷ 0 ∷ 7 ∷ 0 ∷ []) ∷ (2 ∷ 0 ∷ 0 ∷ 3 ∷ 0 ∷ 6 ∷ 0 ∷ 12 ∷ 0 ∷ 7 ∷ 2 ∷ [])
    ∷ (5 ∷ 0 ∷ 0 ∷ 2 ∷ 0 ∷ 6 ∷ 0 ∷ 6 ∷ 0 ∷ 7 ∷ 4 ∷ []) ∷ [])
    ((1 ∷ 0 ∷ 2 ∷ 0 ∷ 12 ∷ 0 ∷ []) ∷ (1 ∷ 2 ∷ 4 ∷ 0 ∷ 6 ∷ 0 ∷ []) ∷ (1 ∷ 4 ∷ 5 ∷ 0 ∷ 6 ∷ 6 ∷ []) ∷ (1 ∷ 5 ∷ 6 ∷ 0 ∷ 6 ∷ 0 ∷ []) ∷ [])
    -- U+00A0 holds a word together and is drawn as a space
    ∷ example (box 30) "a\u{a0}b"
    ((0 ∷ 0 ∷ 0 ∷ 2 ∷ 0 ∷ 6 ∷ 0 ∷ 18 ∷ 0 ∷ 5 ∷ 0 ∷ []) ∷ [])
    ((1 ∷ 0 ∷ 1 ∷ 0 ∷ 6 ∷ 0 ∷ []) ∷ (0 ∷ 1 ∷ 3 ∷ 1 ∷ 6 ∷ 6 ∷ []) ∷ (1 ∷ 3 ∷ 4 ∷ 0 ∷ 6 ∷ 12 ∷ []) ∷ [])
    -- a number with U+202F in it: a box of four characters cuts it like any word, one of six has it whole, and behind another word
    -- it waits whole
    ∷ example (box 24) "12\u{202f}345"
    ((0 ∷ 0 ∷ 0 ∷ 3 ∷ 0 ∷ 6 ∷ 0 ∷ 24 ∷ 0 ∷ 9 ∷ 0 ∷ []) ∷ (6 ∷ 0 ∷ 0 ∷ 2 ∷ 0 ∷ 6 ∷ 0 ∷ 12 ∷ 0 ∷ 9 ∷ 4 ∷ []) ∷ [])
    ((1 ∷ 0 ∷ 2 ∷ 0 ∷ 12 ∷ 0 ∷ []) ∷ (0 ∷ 2 ∷ 5 ∷ 1 ∷ 6 ∷ 12 ∷ []) ∷ (1 ∷ 5 ∷ 6 ∷ 0 ∷ 6 ∷ 18 ∷ []) ∷ (1 ∷ 6 ∷ 8 ∷ 0 ∷ 12 ∷ 0 ∷ []) ∷ [])
    ∷ example (box 36) "12\u{202f}345"
    ((0 ∷ 0 ∷ 0 ∷ 2 ∷ 0 ∷ 6 ∷ 0 ∷ 36 ∷ 0 ∷ 9 ∷ 0 ∷ []) ∷ [])
    ((1 ∷ 0 ∷ 2 ∷ 0 ∷ 12 ∷ 0 ∷ []) ∷ (0 ∷ 2 ∷ 5 ∷ 1 ∷ 6 ∷ 12 ∷ []) ∷ (1 ∷ 5 ∷ 8 ∷ 0 ∷ 18 ∷ 18 ∷ []) ∷ [])
    ∷ example (box 48) "ab 12\u{202f}345"
    ((0 ∷ 0 ∷ 0 ∷ 3 ∷ 0 ∷ 6 ∷ 0 ∷ 12 ∷ 0 ∷ 12 ∷ 0 ∷ []) ∷ (3 ∷ 0 ∷ 0 ∷ 2 ∷ 0 ∷ 6 ∷ 0 ∷ 36 ∷ 0 ∷ 12 ∷ 3 ∷ []) ∷ [])
    ((1 ∷ 0 ∷ 2 ∷ 0 ∷ 12 ∷ 0 ∷ []) ∷ (0 ∷ 2 ∷ 3 ∷ 1 ∷ 0 ∷ 12 ∷ []) ∷ (1 ∷ 3 ∷ 5 ∷ 0 ∷ 12 ∷ 0 ∷ []) ∷ (0 ∷ 5 ∷ 8 ∷ 1 ∷ 6 ∷ 12 ∷ []) ∷ (1 ∷ 8 ∷ 11 ∷ 0 ∷ 18 ∷ 18 ∷ []) ∷ [])
    -- lines that begin and end with each of the three that glue; leading spaces are off, and none is skipped
    ∷ example (laid_out 6 30 0 0 0) "\u{a0}a\u{a0}\n\u{2007}b\u{2007}\n\u{202f}c\u{202f}"
    ((0 ∷ 0 ∷ 0 ∷ 0 ∷ 0 ∷ 6 ∷ 0 ∷ 18 ∷ 0 ∷ 6 ∷ 0 ∷ []) ∷ (6 ∷ 0 ∷ 0 ∷ 0 ∷ 0 ∷ 6 ∷ 0 ∷ 18 ∷ 0 ∷ 14 ∷ 4 ∷ []) ∷ (14 ∷ 0 ∷ 0 ∷ 2 ∷ 0 ∷ 6 ∷ 0 ∷ 18 ∷ 0 ∷ 22 ∷ 8 ∷ []) ∷ [])
    ((0 ∷ 0 ∷ 2 ∷ 1 ∷ 6 ∷ 0 ∷ []) ∷ (1 ∷ 2 ∷ 3 ∷ 0 ∷ 6 ∷ 6 ∷ []) ∷ (0 ∷ 3 ∷ 5 ∷ 1 ∷ 6 ∷ 12 ∷ []) ∷ (1 ∷ 5 ∷ 5 ∷ 0 ∷ 0 ∷ 18 ∷ []) ∷ (0 ∷ 5 ∷ 6 ∷ 0 ∷ 0 ∷ 18 ∷ []) ∷ (0 ∷ 6 ∷ 9 ∷ 1 ∷ 6 ∷ 0 ∷ []) ∷ (1 ∷ 9 ∷ 10 ∷ 0 ∷ 6 ∷ 6 ∷ []) ∷ (0 ∷ 10 ∷ 13 ∷ 1 ∷ 6 ∷ 12 ∷ []) ∷ (1 ∷ 13 ∷ 13 ∷ 0 ∷ 0 ∷ 18 ∷ []) ∷ (0 ∷ 13 ∷ 14 ∷ 0 ∷ 0 ∷ 18 ∷ []) ∷ (0 ∷ 14 ∷ 17 ∷ 1 ∷ 6 ∷ 0 ∷ []) ∷ (1 ∷ 17 ∷ 18 ∷ 0 ∷ 6 ∷ 6 ∷ []) ∷ (0 ∷ 18 ∷ 21 ∷ 1 ∷ 6 ∷ 12 ∷ []) ∷ (1 ∷ 21 ∷ 21 ∷ 0 ∷ 0 ∷ 18 ∷ []) ∷ [])
    -- a word of the three alone, whole and cut into lines of one
    ∷ example (box 30) "\u{a0}\u{2007}\u{202f}"
    ((0 ∷ 0 ∷ 0 ∷ 2 ∷ 0 ∷ 6 ∷ 0 ∷ 18 ∷ 0 ∷ 9 ∷ 0 ∷ []) ∷ [])
    ((0 ∷ 0 ∷ 2 ∷ 1 ∷ 6 ∷ 0 ∷ []) ∷ (0 ∷ 2 ∷ 5 ∷ 1 ∷ 6 ∷ 6 ∷ []) ∷ (0 ∷ 5 ∷ 8 ∷ 1 ∷ 6 ∷ 12 ∷ []) ∷ (1 ∷ 8 ∷ 8 ∷ 0 ∷ 0 ∷ 18 ∷ []) ∷ [])
    ∷ example (box 6) "\u{a0}\u{2007}\u{202f}"
    ((0 ∷ 0 ∷ 0 ∷ 3 ∷ 0 ∷ 6 ∷ 0 ∷ 6 ∷ 0 ∷ 9 ∷ 0 ∷ []) ∷ (2 ∷ 0 ∷ 0 ∷ 3 ∷ 0 ∷ 6 ∷ 0 ∷ 6 ∷ 0 ∷ 9 ∷ 1 ∷ []) ∷ (5 ∷ 0 ∷ 0 ∷ 2 ∷ 0 ∷ 6 ∷ 0 ∷ 6 ∷ 0 ∷ 9 ∷ 2 ∷ []) ∷ [])
    ((0 ∷ 0 ∷ 2 ∷ 1 ∷ 6 ∷ 0 ∷ []) ∷ (1 ∷ 2 ∷ 2 ∷ 0 ∷ 0 ∷ 6 ∷ []) ∷ (0 ∷ 2 ∷ 5 ∷ 1 ∷ 6 ∷ 0 ∷ []) ∷ (1 ∷ 5 ∷ 5 ∷ 0 ∷ 0 ∷ 6 ∷ []) ∷ (0 ∷ 5 ∷ 8 ∷ 1 ∷ 6 ∷ 0 ∷ []) ∷ (1 ∷ 8 ∷ 8 ∷ 0 ∷ 0 ∷ 6 ∷ []) ∷ [])
    -- justified: each is as wide as the next space is and uses that up; the first has the extra pixel, and the line ends at the edge
    ∷ example (justified_box 39) "a\u{2007}b\u{202f}c dd"
    ((0 ∷ 0 ∷ 0 ∷ 3 ∷ 0 ∷ 10 ∷ 1 ∷ 30 ∷ 0 ∷ 13 ∷ 0 ∷ []) ∷ (10 ∷ 0 ∷ 0 ∷ 2 ∷ 0 ∷ 6 ∷ 0 ∷ 12 ∷ 0 ∷ 13 ∷ 6 ∷ []) ∷ [])
    ((1 ∷ 0 ∷ 1 ∷ 0 ∷ 6 ∷ 0 ∷ []) ∷ (0 ∷ 1 ∷ 4 ∷ 1 ∷ 11 ∷ 6 ∷ []) ∷ (1 ∷ 4 ∷ 5 ∷ 0 ∷ 6 ∷ 17 ∷ []) ∷ (0 ∷ 5 ∷ 8 ∷ 1 ∷ 10 ∷ 23 ∷ []) ∷ (1 ∷ 8 ∷ 9 ∷ 0 ∷ 6 ∷ 33 ∷ []) ∷ (1 ∷ 10 ∷ 12 ∷ 0 ∷ 12 ∷ 0 ∷ []) ∷ [])
    ∷ example (justified_box 51) "aa\u{202f}bb cc dd"
    ((0 ∷ 0 ∷ 0 ∷ 3 ∷ 0 ∷ 7 ∷ 1 ∷ 48 ∷ 0 ∷ 12 ∷ 0 ∷ []) ∷ (11 ∷ 0 ∷ 0 ∷ 2 ∷ 0 ∷ 6 ∷ 0 ∷ 12 ∷ 0 ∷ 14 ∷ 9 ∷ []) ∷ [])
    ((1 ∷ 0 ∷ 2 ∷ 0 ∷ 12 ∷ 0 ∷ []) ∷ (0 ∷ 2 ∷ 5 ∷ 1 ∷ 8 ∷ 12 ∷ []) ∷ (1 ∷ 5 ∷ 7 ∷ 0 ∷ 12 ∷ 20 ∷ []) ∷ (0 ∷ 7 ∷ 8 ∷ 1 ∷ 7 ∷ 32 ∷ []) ∷ (1 ∷ 8 ∷ 10 ∷ 0 ∷ 12 ∷ 39 ∷ []) ∷ (1 ∷ 11 ∷ 13 ∷ 0 ∷ 12 ∷ 0 ∷ []) ∷ [])
    -- justified: spaces 8 and 7, and the first line ends at 51
    ∷ example (justified_box 51) "aa bb cc dd"
    ((0 ∷ 0 ∷ 0 ∷ 3 ∷ 0 ∷ 7 ∷ 1 ∷ 48 ∷ 0 ∷ 10 ∷ 0 ∷ []) ∷ (9 ∷ 0 ∷ 0 ∷ 2 ∷ 0 ∷ 6 ∷ 0 ∷ 12 ∷ 0 ∷ 12 ∷ 9 ∷ []) ∷ [])
    ((1 ∷ 0 ∷ 2 ∷ 0 ∷ 12 ∷ 0 ∷ []) ∷ (0 ∷ 2 ∷ 3 ∷ 1 ∷ 8 ∷ 12 ∷ []) ∷ (1 ∷ 3 ∷ 5 ∷ 0 ∷ 12 ∷ 20 ∷ []) ∷ (0 ∷ 5 ∷ 6 ∷ 1 ∷ 7 ∷ 32 ∷ [])
    ∷ (1 ∷ 6 ∷ 8 ∷ 0 ∷ 12 ∷ 39 ∷ []) ∷ (1 ∷ 9 ∷ 11 ∷ 0 ∷ 12 ∷ 0 ∷ []) ∷ [])
    -- the listing program's example
    ∷ example (box 30) "ab cde"
    ((0 ∷ 0 ∷ 0 ∷ 3 ∷ 0 ∷ 6 ∷ 0 ∷ 12 ∷ 0 ∷ 7 ∷ 0 ∷ []) ∷ (3 ∷ 0 ∷ 0 ∷ 2 ∷ 0 ∷ 6 ∷ 0 ∷ 18 ∷ 0 ∷ 7 ∷ 3 ∷ []) ∷ [])
    ((1 ∷ 0 ∷ 2 ∷ 0 ∷ 12 ∷ 0 ∷ []) ∷ (0 ∷ 2 ∷ 3 ∷ 1 ∷ 0 ∷ 12 ∷ []) ∷ (1 ∷ 3 ∷ 6 ∷ 0 ∷ 18 ∷ 0 ∷ []) ∷ [])
    -- skipped leading spaces count, and use up extra pixels: three spaces share 21 pixels
    ∷ example (justified_box 51) " aa bb cc dd"
    ((0 ∷ 0 ∷ 0 ∷ 3 ∷ 0 ∷ 7 ∷ 0 ∷ 48 ∷ 0 ∷ 11 ∷ 0 ∷ []) ∷ (10 ∷ 0 ∷ 0 ∷ 2 ∷ 0 ∷ 6 ∷ 0 ∷ 12 ∷ 0 ∷ 13 ∷ 10 ∷ []) ∷ [])
    ((0 ∷ 0 ∷ 1 ∷ 1 ∷ 0 ∷ 0 ∷ []) ∷ (1 ∷ 1 ∷ 3 ∷ 0 ∷ 12 ∷ 0 ∷ []) ∷ (0 ∷ 3 ∷ 4 ∷ 1 ∷ 7 ∷ 12 ∷ []) ∷ (1 ∷ 4 ∷ 6 ∷ 0 ∷ 12 ∷ 19 ∷ [])
    ∷ (0 ∷ 6 ∷ 7 ∷ 1 ∷ 7 ∷ 31 ∷ []) ∷ (1 ∷ 7 ∷ 9 ∷ 0 ∷ 12 ∷ 38 ∷ []) ∷ (1 ∷ 10 ∷ 12 ∷ 0 ∷ 12 ∷ 0 ∷ []) ∷ [])
    -- centred, and a line feed, which is drawn as a space of no width
    ∷ example (laid_out 6 30 1 0 0) "ab\ncd"
    ((0 ∷ 0 ∷ 0 ∷ 0 ∷ 9 ∷ 6 ∷ 0 ∷ 12 ∷ 0 ∷ 3 ∷ 0 ∷ []) ∷ (3 ∷ 0 ∷ 0 ∷ 2 ∷ 9 ∷ 6 ∷ 0 ∷ 12 ∷ 0 ∷ 6 ∷ 3 ∷ []) ∷ [])
    ((1 ∷ 0 ∷ 2 ∷ 0 ∷ 12 ∷ 9 ∷ []) ∷ (0 ∷ 2 ∷ 3 ∷ 0 ∷ 0 ∷ 21 ∷ []) ∷ (1 ∷ 3 ∷ 5 ∷ 0 ∷ 12 ∷ 9 ∷ []) ∷ [])
    -- to the right: the spaces at the line's end do not count in its width, so they are cut where it is drawn
    ∷ example (laid_out 5 23 2 0 0) "ab  "
    ((0 ∷ 0 ∷ 0 ∷ 3 ∷ 13 ∷ 5 ∷ 0 ∷ 10 ∷ 0 ∷ 5 ∷ 0 ∷ []) ∷ (3 ∷ 4 ∷ 1 ∷ 2 ∷ 23 ∷ 5 ∷ 0 ∷ 0 ∷ 0 ∷ 5 ∷ 3 ∷ []) ∷ [])
    ((1 ∷ 0 ∷ 2 ∷ 0 ∷ 10 ∷ 13 ∷ []) ∷ (0 ∷ 3 ∷ 4 ∷ 1 ∷ 0 ∷ 23 ∷ []) ∷ [])
    -- a carriage return
    ∷ example (box 30) "ab\rcd"
    ((0 ∷ 0 ∷ 0 ∷ 1 ∷ 0 ∷ 6 ∷ 0 ∷ 12 ∷ 0 ∷ 3 ∷ 0 ∷ []) ∷ (3 ∷ 0 ∷ 0 ∷ 2 ∷ 0 ∷ 6 ∷ 0 ∷ 12 ∷ 0 ∷ 6 ∷ 3 ∷ []) ∷ [])
    ((1 ∷ 0 ∷ 2 ∷ 0 ∷ 12 ∷ 0 ∷ []) ∷ (0 ∷ 2 ∷ 3 ∷ 0 ∷ 0 ∷ 12 ∷ []) ∷ (1 ∷ 3 ∷ 5 ∷ 0 ∷ 12 ∷ 0 ∷ []) ∷ [])
    -- the clue that lost a streak: an indent as wide as the column drops "not", and the line says so
    ∷ example (box 30) "     not the baker"
    ((0 ∷ 0 ∷ 0 ∷ 3 ∷ 0 ∷ 6 ∷ 0 ∷ 0 ∷ 3 ∷ 9 ∷ 0 ∷ []) ∷ (8 ∷ 0 ∷ 0 ∷ 3 ∷ 0 ∷ 6 ∷ 0 ∷ 24 ∷ 0 ∷ 19 ∷ 8 ∷ [])
    ∷ (13 ∷ 0 ∷ 0 ∷ 2 ∷ 0 ∷ 6 ∷ 0 ∷ 30 ∷ 0 ∷ 19 ∷ 13 ∷ []) ∷ [])
    ((0 ∷ 0 ∷ 5 ∷ 5 ∷ 30 ∷ 0 ∷ []) ∷ (0 ∷ 8 ∷ 9 ∷ 1 ∷ 6 ∷ 0 ∷ []) ∷ (1 ∷ 9 ∷ 12 ∷ 0 ∷ 18 ∷ 6 ∷ []) ∷ (0 ∷ 12 ∷ 13 ∷ 1 ∷ 0 ∷ 24 ∷ [])
    ∷ (1 ∷ 13 ∷ 18 ∷ 0 ∷ 30 ∷ 0 ∷ []) ∷ [])
    -- words that wait: nothing is dropped after an indent as wide as the box, and the clue is whole
    ∷ example (waiting_box 30) "     ab"
    ((0 ∷ 0 ∷ 0 ∷ 3 ∷ 0 ∷ 6 ∷ 0 ∷ 0 ∷ 0 ∷ 8 ∷ 0 ∷ []) ∷ (5 ∷ 0 ∷ 0 ∷ 2 ∷ 0 ∷ 6 ∷ 0 ∷ 12 ∷ 0 ∷ 8 ∷ 5 ∷ []) ∷ [])
    ((0 ∷ 0 ∷ 5 ∷ 5 ∷ 30 ∷ 0 ∷ []) ∷ (1 ∷ 5 ∷ 7 ∷ 0 ∷ 12 ∷ 0 ∷ []) ∷ [])
    ∷ example (waiting_box 30) "     not the baker"
    ((0 ∷ 0 ∷ 0 ∷ 3 ∷ 0 ∷ 6 ∷ 0 ∷ 0 ∷ 0 ∷ 9 ∷ 0 ∷ []) ∷ (5 ∷ 0 ∷ 0 ∷ 3 ∷ 0 ∷ 6 ∷ 0 ∷ 18 ∷ 0 ∷ 13 ∷ 5 ∷ [])
    ∷ (9 ∷ 0 ∷ 0 ∷ 3 ∷ 0 ∷ 6 ∷ 0 ∷ 18 ∷ 0 ∷ 19 ∷ 9 ∷ []) ∷ (13 ∷ 0 ∷ 0 ∷ 2 ∷ 0 ∷ 6 ∷ 0 ∷ 30 ∷ 0 ∷ 19 ∷ 13 ∷ []) ∷ [])
    ((0 ∷ 0 ∷ 5 ∷ 5 ∷ 30 ∷ 0 ∷ []) ∷ (1 ∷ 5 ∷ 8 ∷ 0 ∷ 18 ∷ 0 ∷ []) ∷ (0 ∷ 8 ∷ 9 ∷ 1 ∷ 0 ∷ 18 ∷ []) ∷ (1 ∷ 9 ∷ 12 ∷ 0 ∷ 18 ∷ 0 ∷ [])
    ∷ (0 ∷ 12 ∷ 13 ∷ 1 ∷ 0 ∷ 18 ∷ []) ∷ (1 ∷ 13 ∷ 18 ∷ 0 ∷ 30 ∷ 0 ∷ []) ∷ [])
    -- each line that begins with such an indent is laid so, not the first alone
    ∷ example (waiting_box 12) "a\n  b"
    ((0 ∷ 0 ∷ 0 ∷ 0 ∷ 0 ∷ 6 ∷ 0 ∷ 6 ∷ 0 ∷ 2 ∷ 0 ∷ []) ∷ (2 ∷ 0 ∷ 0 ∷ 3 ∷ 0 ∷ 6 ∷ 0 ∷ 0 ∷ 0 ∷ 6 ∷ 2 ∷ [])
    ∷ (4 ∷ 0 ∷ 0 ∷ 2 ∷ 0 ∷ 6 ∷ 0 ∷ 6 ∷ 0 ∷ 6 ∷ 4 ∷ []) ∷ [])
    ((1 ∷ 0 ∷ 1 ∷ 0 ∷ 6 ∷ 0 ∷ []) ∷ (0 ∷ 1 ∷ 2 ∷ 0 ∷ 0 ∷ 6 ∷ []) ∷ (0 ∷ 2 ∷ 4 ∷ 2 ∷ 12 ∷ 0 ∷ []) ∷ (1 ∷ 4 ∷ 5 ∷ 0 ∷ 6 ∷ 0 ∷ []) ∷ [])
    -- a "-" was printed and fills the box: the word behind it waits
    ∷ example (waiting_box 6) "\u{ad}ab"
    ((0 ∷ 0 ∷ 0 ∷ 3 ∷ 0 ∷ 6 ∷ 0 ∷ 6 ∷ 0 ∷ 5 ∷ 0 ∷ []) ∷ (2 ∷ 0 ∷ 0 ∷ 3 ∷ 0 ∷ 6 ∷ 0 ∷ 6 ∷ 0 ∷ 5 ∷ 1 ∷ []) ∷ (3 ∷ 0 ∷ 0 ∷ 2 ∷ 0 ∷ 6 ∷ 0 ∷ 6 ∷ 0 ∷ 5 ∷ 2 ∷ []) ∷ [])
    ((1 ∷ 0 ∷ 2 ∷ 0 ∷ 6 ∷ 0 ∷ []) ∷ (1 ∷ 2 ∷ 3 ∷ 0 ∷ 6 ∷ 0 ∷ []) ∷ (1 ∷ 3 ∷ 4 ∷ 0 ∷ 6 ∷ 0 ∷ []) ∷ [])
    -- a box narrower than a glyph drops all the same: no line would have more room
    ∷ example (waiting_box 5) "abc"
    ((0 ∷ 0 ∷ 0 ∷ 3 ∷ 0 ∷ 6 ∷ 0 ∷ 0 ∷ 3 ∷ 4 ∷ 0 ∷ []) ∷ (3 ∷ 0 ∷ 0 ∷ 2 ∷ 0 ∷ 6 ∷ 0 ∷ 0 ∷ 0 ∷ 4 ∷ 3 ∷ []) ∷ [])
    []
    -- to the right: measured from 0 the tab moves the cursor and "a" waits; drawn from the edge nothing moves, and "a" is dropped
    ∷ example (laid_out 24 47 2 1 1) "\ta"
    ((0 ∷ 0 ∷ 0 ∷ 3 ∷ 47 ∷ 24 ∷ 0 ∷ 0 ∷ 1 ∷ 3 ∷ 0 ∷ []) ∷ (2 ∷ 0 ∷ 0 ∷ 2 ∷ 47 ∷ 24 ∷ 0 ∷ 0 ∷ 0 ∷ 3 ∷ 2 ∷ []) ∷ [])
    ((2 ∷ 0 ∷ 1 ∷ 0 ∷ 0 ∷ 47 ∷ []) ∷ [])
    -- centred: measured from 0 the tab goes to 24 and "a" fits; drawn from 12 it goes to 48, and "a" waits
    ∷ example (laid_out 12 59 1 1 1) " \ta"
    ((0 ∷ 0 ∷ 0 ∷ 3 ∷ 12 ∷ 12 ∷ 0 ∷ 36 ∷ 0 ∷ 4 ∷ 0 ∷ []) ∷ (2 ∷ 0 ∷ 0 ∷ 2 ∷ 24 ∷ 12 ∷ 0 ∷ 12 ∷ 0 ∷ 4 ∷ 2 ∷ []) ∷ [])
    ((0 ∷ 0 ∷ 1 ∷ 1 ∷ 12 ∷ 12 ∷ []) ∷ (0 ∷ 1 ∷ 2 ∷ 0 ∷ 24 ∷ 24 ∷ []) ∷ (1 ∷ 2 ∷ 3 ∷ 0 ∷ 12 ∷ 24 ∷ []) ∷ [])
    -- justified: measured "a" fits; drawn the wide space and the tab behind it carry the cursor too far, and "a" waits
    ∷ example (laid_out 6 74 3 1 1) " \ta\r"
    ((0 ∷ 0 ∷ 0 ∷ 3 ∷ 0 ∷ 50 ∷ 0 ∷ 30 ∷ 0 ∷ 4 ∷ 0 ∷ []) ∷ (2 ∷ 0 ∷ 0 ∷ 1 ∷ 0 ∷ 6 ∷ 0 ∷ 6 ∷ 0 ∷ 4 ∷ 2 ∷ []) ∷ (4 ∷ 0 ∷ 0 ∷ 2 ∷ 0 ∷ 6 ∷ 0 ∷ 0 ∷ 0 ∷ 5 ∷ 4 ∷ []) ∷ [])
    ((0 ∷ 0 ∷ 1 ∷ 1 ∷ 50 ∷ 0 ∷ []) ∷ (0 ∷ 1 ∷ 2 ∷ 0 ∷ 22 ∷ 50 ∷ []) ∷ (1 ∷ 2 ∷ 3 ∷ 0 ∷ 6 ∷ 0 ∷ []) ∷ (0 ∷ 3 ∷ 4 ∷ 0 ∷ 0 ∷ 6 ∷ []) ∷ [])
    ∷ []

-- The lines and the events of a text, with every definition that they take open to be computed.
unfoldable pub lines_of : Settings → List ℕ → List (List ℕ)
unfolding pick bytes size white_spaces member is_white glue class_of in_word in_run run after ender counted first others tokens_by tokens chars_of size_of ender_of need_of room_of fits_in advance has_moved tab_width spaces_width spaces_after plain_spaces justified place goes_on next_fits added next_width grow stretches glues printed_first drawn_stretches drawn_word skips draws_space when cut_run on_space on_tab hyphenated on_break unfit_word cut_word on_word step process measured held_tokens line_tokens start_place measuring placing line_of lay_line rest_of entry_at events_at row_at unless_ended rows_by rows layout of_entry
lines_of s cs = map of_entry (layout s cs)

unfoldable pub events_of : Settings → List ℕ → List (List ℕ)
unfolding lines_of all_events layout_events of_event
events_of s cs = map of_event (layout_events s cs)

-- What the definitions make of an example's text.
unfoldable pub computed : Example → Example
unfolding codes lines_of events_of
computed e =
    record {
      settings = e.settings;
      text = e.text;
      lines = lines_of e.settings (codes e.text);
      events = events_of e.settings (codes e.text);
    }

-- As many lines as a text can have: a line feed each, and the empty line after the last.
pub most-lines-reached : length (lines_of (box 30) (codes "\n\n")) ≡ most_lines (codes "\n\n")
unfolding codes lines_of
most-lines-reached = refl
