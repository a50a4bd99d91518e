-- What the scope's numbers are for each answer: 0 where a call was done, else the refusal's number; and the values besides.
-- Refusal 1, refusal 2, refusal 3, refusal 4, refusal 5, refusal 6, refusal 8, refusal 9, refusal 10, refusal 11, refusal 12.
-- Assumes nothing.
use Rattle.std.specs.Prelude.{ℕ, ℤ, Bool, true, false, Option, Some, None, Result, Ok, Err}
use Rattle.meaning.specs.Refusals.{number_of, besides}
use Rattle.meaning.specs.declared.refusals.Refusal.{Refusal}
use Rattle.meaning.specs.declared.answers.Drawing.{Drawing}
use Rattle.meaning.specs.declared.answers.Relaid.{Relaid}
use Rattle.meaning.specs.declared.answers.NextLine.{NextLine}
use Rattle.meaning.specs.declared.answers.LineY.{LineY}
use Rattle.meaning.specs.declared.answers.FileRead.{FileRead}
use Rattle.meaning.specs.declared.answers.Paged.{Paged}
use Rattle.meaning.specs.declared.answers.Chosen.{Chosen}
use Rattle.meaning.specs.declared.answers.Chosen.TheVariants.{Long, Short}

-- Whatever a call answers.
abbrev pub answer_number : {X : Type 0} → Result X Refusal → ℕ
answer_number (Ok x) = 0
answer_number (Err r) = number_of r

-- A count of tokens, lines, pages or bytes, an offset or a height.
abbrev pub count_value : Result ℕ Refusal → ℕ
count_value (Ok n) = n
count_value (Err r) = besides r

abbrev pub drawingValue : Result Drawing Refusal → ℕ
drawingValue (Ok d) = d.lines
drawingValue (Err r) = besides r

-- The count of events is written only where the call was done.
abbrev pub drawingCount : Result Drawing Refusal → (old : ℕ) → ℕ
drawingCount (Ok d) old = d.events
drawingCount (Err r) old = old

abbrev pub frameValue : Result NextLine Refusal → ℕ
frameValue (Ok n) = n.start.0
frameValue (Err r) = besides r

-- The next line's rest is written only where the call was done.
abbrev pub frameRestEnd : Result NextLine Refusal → (old : ℕ) → ℕ
frameRestEnd (Ok n) old = n.rest.end.0
frameRestEnd (Err r) old = old

abbrev pub frameRestCount : Result NextLine Refusal → (old : ℕ) → ℕ
frameRestCount (Ok n) old = n.rest.count.0
frameRestCount (Err r) old = old

abbrev pub relayValue : Result Relaid Refusal → ℕ
relayValue (Ok n) = n.lines
relayValue (Err r) = besides r

-- So is the count of lines laid.
abbrev pub relayCount : Result Relaid Refusal → (old : ℕ) → ℕ
relayCount (Ok n) old = n.laid
relayCount (Err r) old = old

-- 1 if the line shows, 0 if not, 2 if there is no such line.
abbrev pub shown_value : (shows : Bool) → ℕ
shown_value true = 1
shown_value false = 0

abbrev pub yValue : Result (Option LineY) Refusal → ℕ
yValue (Ok (Some l)) = shown_value l.shows
yValue (Ok None) = 2
yValue (Err r) = besides r

-- The y is written only where there is such a line.
abbrev pub yPlace : Result (Option LineY) Refusal → (old : ℤ) → ℤ
yPlace (Ok (Some l)) old = l.y
yPlace (Ok None) old = old
yPlace (Err r) old = old

-- What stands for no line: no table has so many. It stands for no width too.
abbrev pub noLineNumber : ℕ
noLineNumber = 18446744073709551615

abbrev pub found_value : Result (Option ℕ) Refusal → ℕ
found_value (Ok (Some k)) = k
found_value (Ok None) = noLineNumber
found_value (Err r) = besides r

abbrev pub readingValue : Result FileRead Refusal → ℕ
readingValue (Ok f) = f.lines
readingValue (Err r) = besides r

-- The text's length is written only where the call was done.
abbrev pub readingLength : Result FileRead Refusal → (old : ℕ) → ℕ
readingLength (Ok f) old = f.bytes
readingLength (Err r) old = old

-- The bytes of the part, from its text's front.
abbrev pub choosingValue : Result Chosen Refusal → ℕ
choosingValue (Ok (Long n)) = n
choosingValue (Ok (Short n m)) = n
choosingValue (Err r) = besides r

-- 0 the long text, 1 the short one; and the characters left out. Both are written only where the call was done.
abbrev pub choosingWhich : Result Chosen Refusal → (old : ℕ) → ℕ
choosingWhich (Ok (Long n)) old = 0
choosingWhich (Ok (Short n m)) old = 1
choosingWhich (Err r) old = old

abbrev pub choosingLeft : Result Chosen Refusal → (old : ℕ) → ℕ
choosingLeft (Ok (Long n)) old = 0
choosingLeft (Ok (Short n m)) old = m
choosingLeft (Err r) old = old

abbrev pub pagingValue : Result Paged Refusal → ℕ
pagingValue (Ok p) = p.lines
pagingValue (Err r) = besides r

-- The count of pages is written only where the call was done.
abbrev pub pagingCount : Result Paged Refusal → (old : ℕ) → ℕ
pagingCount (Ok p) old = p.pages
pagingCount (Err r) old = old

-- 1 if it fits, 0 if not.
abbrev pub fittingValue : Result Bool Refusal → ℕ
fittingValue (Ok true) = 1
fittingValue (Ok false) = 0
fittingValue (Err r) = besides r
