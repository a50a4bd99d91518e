-- Words that are counted up to a position, and the line that they make, however it ends.
-- Assumes nothing.
use Rattle.std.specs.Prelude.{List, ℕ, ◌+◌, ◌≤◌, ◌<◌, length}
use Rattle.meaning.specs.declared.line.LineEnd.{LineEnd}
use Rattle.meaning.specs.declared.line.LineEnd.TheVariants.{NewLine, CarriageReturn, EndOfText, LineBreak}
use Rattle.parser.specs.Letters.{Spells}
use Rattle.placing.specs.Quick.{Counting}
use Rattle.placing.specs.Plain.{EndedRow}
use Rattle.placing.specs.declared.told.ToldRow.{ToldRow}

-- So many characters are counted from one offset up to another, at least one and no more than fit.
pub record WordsTo (t : List ℕ) (at most to columns : ℕ) : Type 0 where
  pub forward : at < to
  pub inside : to ≤ length t
  pub some : 1 ≤ columns
  pub spaces : ℕ
  pub counting : Counting t at most to columns spaces

-- A character of words stands at a position, and has so many bytes.
pub record Within (t : List ℕ) (at n : ℕ) : Type 0 where
  pub glues : ℕ
  pub spells : Spells t at n glues

abbrev pub told_at : (next columns reach : ℕ) → LineEnd → ToldRow
told_at next columns reach ended =
    record { next = record { 0 = next }; columns = record { 0 = columns }; reach = record { 0 = reach }; ended = ended }

-- How many characters a line of so many takes with what ends it: a space or a line feed.
abbrev pub taken_by : LineEnd → (columns : ℕ) → ℕ
taken_by EndOfText columns = columns
taken_by NewLine columns = columns + 1
taken_by CarriageReturn columns = columns + 1
taken_by LineBreak columns = columns + 1

-- The line at an offset is found to be this one.
abbrev pub RowIn : List ℕ → (at most : ℕ) → ToldRow → Type 0
RowIn t at most r = EndedRow r.ended t at most r.columns.0 r.next.0 (taken_by r.ended r.columns.0) r.reach.0

-- Wherever words begin that are counted up to a position, this is their line.
abbrev pub RowEnding : List ℕ → (end columns : ℕ) → ToldRow → Type 0
RowEnding t end columns r = (at most : ℕ) → WordsTo t at most end columns → RowIn t at most r
