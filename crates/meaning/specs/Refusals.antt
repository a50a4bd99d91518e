-- The scope's table of refusals: the number of each, and what goes besides it.
-- Refusal 1, refusal 2, refusal 3, refusal 4, refusal 5, refusal 6, refusal 8, refusal 9, refusal 10, refusal 11, refusal 12.
-- Assumes nothing.
use Rattle.std.specs.Prelude.{ℕ, Result, Ok, Err, ⊤}
use Rattle.meaning.specs.declared.refusals.Refusal.{Refusal}
use Rattle.meaning.specs.declared.refusals.Refusal.TheVariants.{SettingOutOfRange, UnknownAlignment, TextTooLong, NotUtf8, BadLine, BadEdit, TooSmall, BadField, BadIndex, OldEntry, RetiredSetting}

-- Number 7 was given where a line takes no character. None does (laws: `lines-take`), so it is not used any more.
abbrev pub number_of : Refusal → ℕ
number_of SettingOutOfRange = 1
number_of (UnknownAlignment a) = 2
number_of (TextTooLong n) = 3
number_of (NotUtf8 n) = 4
number_of (BadLine k) = 5
number_of BadEdit = 6
number_of (TooSmall n) = 8
number_of (BadField at) = 9
number_of (BadIndex n) = 10
number_of (OldEntry at) = 11
number_of RetiredSetting = 12

-- Besides 1 goes 0, besides 2 the number given, besides 3 the text's length, besides 4 the length of its longest valid prefix,
-- besides 5 the first bad line, besides 6 again 0, besides 8 the entries that are needed, besides 9 and 11 the field's offset, besides 10
-- the index's length or the first line whose y is too small. Besides 12 goes 0: the settings that go with it are handed out in a buffer.
abbrev pub besides : Refusal → ℕ
besides SettingOutOfRange = 0
besides (UnknownAlignment a) = a
besides (TextTooLong n) = n
besides (NotUtf8 n) = n.0
besides (BadLine k) = k
besides BadEdit = 0
besides (TooSmall n) = n
besides (BadIndex n) = n
besides (BadField at) = at
besides (OldEntry at) = at
besides RetiredSetting = 0

-- What a check answers: nothing more where it holds.
abbrev pub Checked : Type 0
Checked = Result ⊤ Refusal

-- What goes besides a check's number: 0 where nothing is refused.
abbrev pub checked_value : Checked → ℕ
checked_value (Ok tt) = 0
checked_value (Err r) = besides r
