-- The widths of a file: one decimal number of 1 to 4 digits, at most 4,096, for each line (refusal 13).
-- Assumes nothing.
use Rattle.std.specs.Prelude.{ℕ, suc, ◌≤◌, ◌<◌, ◌≡◌, List, [], ◌∷◌, ltb, length, take, None, Option, Some, Result, Ok, Err}
use Rattle.std.proofs.Common.{sym, subst, arith, lt-ltb, le-ltb, ltb-true}
use Rattle.basis.specs.Choice.{pick, pick_cases}
use Rattle.meaning.specs.Columns.{widest_box}
use Rattle.meaning.specs.Month.{stream_lines}
use Rattle.clues.specs.Summing.{Narrow}
use Rattle.console.specs.Digits.{decimal_in, AtMost, decimal_most}
use Rattle.month.specs.declared.width_lines.WidthsError.{WidthsError}
use Rattle.month.specs.declared.width_lines.WidthsError.TheVariants.{Bad}

-- A line: an empty one is none, and one of more than 4 bytes.
unfoldable pub width_of : (line : List ℕ) → Option ℕ
width_of line = pick (ltb 4 (length line)) None (decimal_in widest_box line)

-- ---- the lines of a file, of which k are passed, where there is room for so many widths

abbrev pub if_width : Option ℕ → (k : ℕ) → Result ℕ WidthsError → Result ℕ WidthsError
if_width (Some w) k more = more
if_width None k more = Err (Bad k)

unfoldable pub widths_from : (room k : ℕ) → (lines : List (List ℕ)) → Result ℕ WidthsError
widths_from room k [] = Ok k
widths_from room k (line ∷ lines) =
    let more = widths_from room (suc k) lines in
    pick (ltb k room) (if_width (width_of line) k more) (Err (Bad k))

-- How many widths a file has, or its first bad line: one that is no width, or one more than there is room for.
unfoldable pub widths_in : (room : ℕ) → (file : List ℕ) → Result ℕ WidthsError
widths_in room file = widths_from room 0 (stream_lines file)

-- The widths themselves, up to a line that is none.
abbrev pub onto_widths : Option ℕ → List ℕ → List ℕ
onto_widths (Some w) more = w ∷ more
onto_widths None more = []

unfoldable pub listed : (lines : List (List ℕ)) → List ℕ
listed [] = []
listed (line ∷ lines) =
    let more = listed lines in
    onto_widths (width_of line) more

unfoldable pub listed_in : (file : List ℕ) → List ℕ
listed_in file = listed (stream_lines file)

-- The widths that are listed stand at the array's front.
abbrev pub Held : (file : List ℕ) → Result ℕ WidthsError → List ℕ → Type 0
Held file (Ok n) u = take n u ≡ listed_in file
Held file (Err e) u = Unit {0}

-- ---- a line by its length

module _ (line : List ℕ) where
  pub width-long : 4 < length line → None ≡ width_of line
  unfolding width_of pick
  width-long h = rw (lt-ltb _ _ h)

  pub width-short : length line ≤ 4 → (r : Option ℕ) → r ≡ decimal_in widest_box line → r ≡ width_of line
  unfolding width_of pick
  width-short h r e = rw (le-ltb _ _ h) e

-- ---- widths that are listed are in range, and there is room for them

width-most : (line : List ℕ) → AtMost widest_box (width_of line)
unfolding width_of
width-most line = pick_cases (AtMost widest_box) (ltb 4 (length line)) (λ _. tt) (λ _. decimal_most widest_box line)

onto_narrow : (d : Option ℕ) (ws : List ℕ) → AtMost widest_box d → Narrow ws → Narrow (onto_widths d ws)
onto_narrow (Some w) ws h n = (h, n)
onto_narrow None ws h n = tt

listed-narrow : (lines : List (List ℕ)) → Narrow (listed lines)
unfolding listed
listed-narrow [] = tt
listed-narrow (line ∷ lines) = onto_narrow (width_of line) (listed lines) (width-most line) (listed-narrow lines)

abbrev Few : ℕ → Result ℕ WidthsError → Type 0
Few room (Ok n) = n ≤ room
Few room (Err e) = Unit {0}

if_few : (room : ℕ) (d : Option ℕ) (k : ℕ) (r : Result ℕ WidthsError) → Few room r → Few room (if_width d k r)
if_few room (Some w) k r h = h
if_few room None k r h = tt

widths-few : (room k : ℕ) (lines : List (List ℕ)) → k ≤ room → Few room (widths_from room k lines)
unfolding widths_from
widths-few room k [] h = h
widths-few room k (line ∷ lines) h =
    pick_cases (Few room) (ltb k room)
    (λ e. if_few room (width_of line) k _ (widths-few room (suc k) lines (omega (arith, ltb-true k room e))))
    (λ _. tt)

-- What is known of an answer, whatever the file is.
abbrev pub Read : Result ℕ WidthsError → List ℕ → Type 0
Read (Ok n) u = (n ≤ length u) × Narrow (take n u)
Read (Err e) u = Unit {0}

pub read_of : (file : List ℕ) (r : Result ℕ WidthsError) (u : List ℕ) (room : ℕ) → length u ≡ room → r ≡ widths_in room file → Held file r u → Read r u
unfolding widths_in listed_in
read_of file (Ok n) u room same e h =
    let few : n ≤ room = subst (Few room) (sym e) (widths-few room 0 (stream_lines file) (omega arith)) in
    (omega arith, subst Narrow (sym h) (listed-narrow (stream_lines file)))
read_of file (Err e) u room same f h = tt
