-- Good lines that are not the last, skipped one after the other by plain numbers.
-- Assumes nothing.
use Rattle.std.specs.Prelude.{◌≡◌, ℕ, ◌+◌, ◌-◌, ◌*◌, ◌%◌, ◌<◌, ◌≤◌, true, false, List, length, drop, slice_index, slice_index_or}
use Rattle.meaning.specs.Refusals.{Checked}
use Rattle.meaning.specs.Table.{entry_numbers, entry_in}
use Rattle.meaning.specs.WellFormed.{Before, line, check_lines}
use Rattle.meaning.specs.Edit.{unaffected}
use Rattle.look.specs.OneLine.{count_fits, ending_at, line_good}
use Rattle.table.specs.LinesFrom.{lines_from}

-- So many lines are looked at at once, and so many numbers. `LINES` and `BLOCK` of the code say the same.
abbrev pub block_lines : ℕ
block_lines = 8

abbrev pub block_numbers : ℕ
block_numbers = block_lines * entry_numbers

-- How many numbers of 32 bits there are: in a pair, the second counts so many times. `SPAN` of the code says the same.
abbrev pub span : ℕ
span = 4294967296

-- The end type LineBreak behind a rest count of 0, as a pair. `SOFT_END` of the code says the same.
abbrev pub soft_end : ℕ
soft_end = 3 * span

-- The line before the one at a number of the table.
abbrev pub before : List ℕ → (at : ℕ) → Before
before t at = line (slice_index t (at - entry_numbers)) (slice_index t (at - entry_numbers + 9)) (slice_index t (at - entry_numbers + 10))

-- The line at a number is good, not the last, and its reach at most this: it starts past the line before it and within the text.
pub record GoodLine (t : List ℕ) (at n most : ℕ) : Type 0 where
  pub good : line_good n (before t at) (entry_in (drop at t)) false ≡ true
  pub past : slice_index_or t (at - entry_numbers) 0 < slice_index t at
  pub inside : slice_index_or t at 0 ≤ n
  pub low : slice_index_or t (at + 9) 0 ≤ most

-- Two numbers side by side, as one: the second counts 2^32 times.
abbrev pub pair_at : List ℕ → (at : ℕ) → ℕ
pair_at t at = slice_index t at + span * slice_index t (at + 1)

-- The first of them is a number of 32 bits.
pub record Paired (t : List ℕ) (at r : ℕ) : Type 0 where
  pub both : r ≡ pair_at t at
  pub low : slice_index_or t at 0 < span

-- The line cuts no run of spaces, and is not the last.
pub record PlainEnd (t : List ℕ) (at : ℕ) : Type 0 where
  pub none : slice_index_or t (at + 2) 0 ≡ 0
  pub ending : ending_at false (slice_index t (at + 3)) ≡ true

-- No more characters than bytes stand before it.
abbrev pub Counted : List ℕ → (at : ℕ) → Type 0
Counted t at = slice_index t (at + 10) ≤ slice_index t at

-- It starts behind the start of the line before it and within what that reached, without a rest, and its reach is at most this.
pub record Starts (t : List ℕ) (at most : ℕ) : Type 0 where
  pub past : slice_index_or t (at - entry_numbers) 0 < slice_index t at
  pub within : slice_index_or t at 0 ≤ slice_index t (at - entry_numbers + 9)
  pub restless : slice_index_or t (at + 1) 0 ≡ 0
  pub low : slice_index_or t (at + 9) 0 ≤ most

-- More characters stand before it than before the line before it, and no more than bytes.
pub record Follows (t : List ℕ) (at most : ℕ) : Type 0 where
  pub starts : Starts t at most
  pub counted : count_fits (slice_index t (at - entry_numbers + 10)) (slice_index t at) (slice_index t (at + 10)) ≡ true

-- Such a line is good if it starts within the text.
pub record PlainLine (t : List ℕ) (at most : ℕ) : Type 0 where
  pub follows : Follows t at most
  pub end : PlainEnd t at

-- All lines from one number of the table up to another are so, and none of them is the one at `last`.
pub record Lines (P : ℕ → Type 0) (last from to : ℕ) : Type 0 where
  pub count : ℕ
  pub ends : to ≡ from + entry_numbers * count
  pub each : (i : ℕ) → i < count → P (from + entry_numbers * i)
  pub inside : (i : ℕ) → i < count → from + entry_numbers * i < last

abbrev pub PlainLines : List ℕ → (last most from to : ℕ) → Type 0
PlainLines t last most = Lines (λ (at : ℕ). PlainLine t at most) last

-- The characters before a line are its start and a lag, modulo 2^32. The line behind it starts past its start and within what it
-- reached, which is at most this, and has no rest.
pub record InStep (t : List ℕ) (at lag most : ℕ) : Type 0 where
  pub counted : slice_index_or t (at + 10) 0 ≡ (slice_index t at + lag) % span
  pub past : slice_index_or t at 0 < slice_index t (at + entry_numbers)
  pub within : slice_index_or t (at + entry_numbers) 0 ≤ slice_index t (at + 9)
  pub restless : slice_index_or t (at + entry_numbers + 1) 0 ≡ 0
  pub low : slice_index_or t (at + 9) 0 ≤ most

-- Such a line, if it cuts no run of spaces, is plain behind another one.
pub record StepLine (t : List ℕ) (at lag most : ℕ) : Type 0 where
  pub step : InStep t at lag most
  pub end : PlainEnd t at

abbrev pub StepLines : List ℕ → (last lag most from to : ℕ) → Type 0
StepLines t last lag most = Lines (λ (at : ℕ). StepLine t at lag most) last

-- The check of the lines from line k on.
abbrev pub check_from : List ℕ → (lines n k : ℕ) → Checked
check_from t lines n k = check_lines n k (before t (entry_numbers * k)) (lines_from t lines k)

-- So are the lines from line j up to line k: the check goes on there, and so does the search for a reach above any a that is as high.
pub record Skipped (t : List ℕ) (lines n most j k : ℕ) : Type 0 where
  pub forward : j ≤ k
  pub inside : k ≤ lines
  pub check : check_from t lines n k ≡ check_from t lines n j
  pub search : (a : ℕ) → most ≤ a → j + length (unaffected a (lines_from t lines j)) ≡ k + length (unaffected a (lines_from t lines k))
