-- Computed examples of one line from a start: which starts and rests are taken, and what is laid there (rule 10, refusal 5).
-- Assumes nothing.
use Rattle.std.specs.Prelude.{ℕ, ◌≡◌, refl, Bool, true, false, List, [], ◌∷◌, map}
use Prim.Native.String.{String}
use Rattle.utf8.specs.Places.{boundary}
use Rattle.meaning.specs.Table.{of_entry}
use Rattle.meaning.specs.Edit.{chars_in}
use Rattle.meaning.specs.Frames.{is_none, none_resumed, onward, rest_lies, stand_good, held_by, one_line, first_lines}
use Rattle.meaning.specs.Examples.{codes, lines_of, box}
use Rattle.meaning.specs.declared.settings.Settings.{Settings}
use Rattle.meaning.specs.declared.line.Rest.{Rest}

-- A text, a start, a rest by its end and its count, and whether a line may be laid there.
pub record StandExample : Type 0 where
  pub text : String
  pub start : ℕ
  pub end : ℕ
  pub count : ℕ
  pub good : Bool

abbrev pub stand : String → (start end count : ℕ) → Bool → StandExample
stand text start end count good = record { text = text; start = start; end = end; count = count; good = good }

abbrev pub rest_is : (end count : ℕ) → Rest
rest_is end count = record { end = record { 0 = end }; count = record { 0 = count } }

-- "é" takes the bytes 1 and 2, and the text has five.
abbrev pub stands : List StandExample
stands =
    -- the front, the text's end, and past it; inside a character
    stand "aé  " 0 0 0 true
    ∷ stand "aé  " 5 0 0 true
    ∷ stand "aé  " 6 0 0 false
    ∷ stand "aé  " 2 0 0 false
    -- a rest above its start, up to the text's end; at its start, below it, and past the end
    ∷ stand "aé  " 3 5 2 true
    ∷ stand "aé  " 3 4 1 true
    ∷ stand "aé  " 3 3 0 false
    ∷ stand "aé  " 3 1 0 false
    ∷ stand "aé  " 3 6 1 false
    -- one that ends inside a character; one character too many; no end, and a count
    ∷ stand "aé  " 0 2 1 false
    ∷ stand "aé  " 3 5 3 false
    ∷ stand "aé  " 0 3 2 true
    ∷ stand "aé  " 0 3 3 false
    ∷ stand "aé  " 0 0 1 false
    ∷ []

unfoldable pub told : StandExample → StandExample
unfolding codes lines_of boundary chars_in is_none onward rest_lies stand_good
told e =
    record {
      text = e.text;
      start = e.start;
      end = e.end;
      count = e.count;
      good = stand_good (codes e.text) e.start (rest_is e.end e.count);
    }

pub stands_hold : map told stands ≡ stands
unfolding told
stands_hold = refl

-- The line at a start: its eleven numbers, and behind them the next start and the next rest.
unfoldable pub line_at : Settings → String → (start end count : ℕ) → List (List ℕ)
unfolding lines_of codes chars_in is_none onward held_by one_line
line_at s text start end count =
    let o = one_line s (codes text) start (rest_is end count) in
    of_entry o.entry ∷ (o.next ∷ o.rest.end.0 ∷ o.rest.count.0 ∷ []) ∷ []

-- The second line of "é b" in a box of two characters, where a character of two bytes stands before it.
pub second-line : line_at (box 12) "é b" 3 0 0 ≡ (3 ∷ 0 ∷ 0 ∷ 2 ∷ 0 ∷ 6 ∷ 0 ∷ 6 ∷ 0 ∷ 5 ∷ 2 ∷ []) ∷ (4 ∷ 0 ∷ 0 ∷ []) ∷ []
unfolding line_at
second-line = refl

-- No line of the layout starts inside a word, and one is laid there all the same.
pub inside-a-word : line_at (box 30) "abc" 1 0 0 ≡ (1 ∷ 0 ∷ 0 ∷ 2 ∷ 0 ∷ 6 ∷ 0 ∷ 12 ∷ 0 ∷ 4 ∷ 1 ∷ []) ∷ (3 ∷ 0 ∷ 0 ∷ []) ∷ []
unfolding line_at
inside-a-word = refl

-- A run of four spaces in a box of one: one fits, one more is taken, and the rest of two goes with the next start.
pub rest-handed-on : line_at (box 6) "a    b" 1 0 0 ≡ (1 ∷ 0 ∷ 0 ∷ 3 ∷ 0 ∷ 6 ∷ 0 ∷ 0 ∷ 0 ∷ 6 ∷ 1 ∷ []) ∷ (3 ∷ 5 ∷ 2 ∷ []) ∷ []
unfolding line_at
rest-handed-on = refl

-- Stopping after one line, and going on to the end.
pub stops_and_goes-on : (map of_entry (first_lines 1 (box 30) (codes "ab cde") 0 none_resumed)
    ≡ (0 ∷ 0 ∷ 0 ∷ 3 ∷ 0 ∷ 6 ∷ 0 ∷ 12 ∷ 0 ∷ 7 ∷ 0 ∷ []) ∷ [])
    × (map of_entry (first_lines 9 (box 30) (codes "ab cde") 0 none_resumed) ≡ lines_of (box 30) (codes "ab cde"))
unfolding codes lines_of chars_in is_none onward held_by one_line first_lines
stops_and_goes-on = (refl, refl)
