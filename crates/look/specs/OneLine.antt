-- The tests of one line, by the line before it and whether it is the last.
-- Assumes nothing.
use Rattle.std.specs.Prelude.{◌≡◌, ℕ, suc, ◌-◌, Bool, true, false, not, ◌&&◌, ◌||◌, List, [], ◌∷◌, ◌==◌, nat_le, nat_lt, refl, Option, Some, None}
use Rattle.meaning.specs.WellFormed.{Before, nothing, line, start_good, rest_good, ending_good, count_good, entry_good}
use Rattle.meaning.specs.declared.line.Entry.{Entry}
use Rattle.look.specs.declared.one_line.LineBefore.{LineBefore}

abbrev pub before_of : Option LineBefore → Before
before_of None = nothing
before_of (Some l) = line l.start.0 l.reach.0 l.before.0

-- A start, in a text of n bytes, where the line before starts at `from` and reaches `reached`.
unfoldable pub start_fits : (n from reached start : ℕ) → Bool
start_fits n from reached start = nat_lt from start && nat_le start reached && nat_le start n

-- A rest, or none.
unfoldable pub rest_stands : (n reached start end count : ℕ) → Bool
rest_stands n reached start end count =
    (end == 0 && count == 0) || (nat_lt start end && nat_le end n && nat_le end reached && nat_le count (end - start))

-- The characters before a line that starts at `start`, where there are `from` before the line before it.
unfoldable pub count_fits : (from start count : ℕ) → Bool
count_fits from start count = nat_lt from count && nat_le count start

-- The end type of the last line, or of another.
unfoldable pub ending_at : (last : Bool) → ℕ → Bool
ending_at true n = n == 2
ending_at false n = nat_le n 3 && not (n == 2)

unfoldable pub line_good : (length : ℕ) → Before → Entry → (last : Bool) → Bool
line_good n b e last = start_good n b e && rest_good n b e && ending_at last e.ending && nat_le e.reach.0 (suc n) && count_good b e

-- Do no lines follow.
abbrev pub is_last : List Entry → Bool
is_last [] = true
is_last (e ∷ es) = false

pub ending_at_lem : (es : List Entry) (n : ℕ) → ending_at (is_last es) n ≡ ending_good es n
unfolding ending_at ending_good
ending_at_lem [] n = refl
ending_at_lem (e ∷ es) n = refl

pub line-good : (n : ℕ) (b : Before) (e : Entry) (es : List Entry) → line_good n b e (is_last es) ≡ entry_good n b e es
unfolding line_good entry_good
line-good n b e es = rw (ending_at_lem es e.ending)
