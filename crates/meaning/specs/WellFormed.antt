-- Refusal 5: which tables are well formed, and which line is the first bad one.
-- Assumes nothing.
use Rattle.std.specs.Prelude.{ℕ, suc, ◌-◌, Bool, ◌&&◌, ◌||◌, not, List, [], ◌∷◌, leb, ltb, eqb, Err, Ok}
use Rattle.meaning.specs.Refusals.{Checked}
use Rattle.basis.specs.Choice.{pick}
use Rattle.basis.specs.Order.{within}
use Rattle.meaning.specs.Table.{entry_numbers, capacity_of, entries_in}
use Rattle.meaning.specs.declared.line.Entry.{Entry}
use Rattle.meaning.specs.declared.refusals.Refusal.TheVariants.{BadLine}

-- The reach of the last line, and the text's length, which is one less.
unfoldable pub last_reach : List Entry → ℕ
last_reach [] = 0
last_reach (e ∷ []) = e.reach.0
last_reach (e ∷ f ∷ es) = last_reach (f ∷ es)

unfoldable pub text_length : List Entry → ℕ
text_length es = last_reach es - 1

-- What a line is held to of the line before it: that line's start, its reach and the characters before it.
pub data Before : Type 0 where
  nothing : Before
  line : (start reach before : ℕ) → Before

-- Starts rise strictly from 0, pass neither the reach before them nor the text's length.
unfoldable pub start_good : (length : ℕ) → Before → Entry → Bool
start_good n nothing e = eqb e.start.0 0
start_good n (line start reach before) e = ltb start e.start.0 && leb e.start.0 reach && leb e.start.0 n

unfoldable pub no_rest : Entry → Bool
no_rest e = eqb e.rest.end.0 0 && eqb e.rest.count.0 0

-- A rest ends above the start, within the text and what the line before examined, and counts no more than its bytes.
unfoldable pub rest_good : (length : ℕ) → Before → Entry → Bool
rest_good n nothing e = no_rest e
rest_good n (line start reach before) e =
    no_rest e
    || (ltb e.start.0 e.rest.end.0
    && leb e.rest.end.0 n
    && leb e.rest.end.0 reach
    && leb e.rest.count.0 (e.rest.end.0 - e.start.0))

-- End types are 0 to 3, EndOfText (2) on the last line and only there.
unfoldable pub ending_good : List Entry → ℕ → Bool
ending_good [] n = eqb n 2
ending_good (e ∷ es) n = leb n 3 && not (eqb n 2)

-- The characters before a line rise strictly from 0, and are no more than the bytes before it.
unfoldable pub count_good : Before → Entry → Bool
count_good nothing e = eqb e.before.0 0
count_good (line start reach before) e = ltb before e.before.0 && leb e.before.0 e.start.0

-- A line, given the lines after it. No reach passes the last one.
unfoldable pub entry_good : (length : ℕ) → Before → Entry → List Entry → Bool
entry_good n b e more = start_good n b e && rest_good n b e && ending_good more e.ending && leb e.reach.0 (suc n) && count_good b e

-- The first bad line, where lines are numbered from k on.
unfoldable pub check_lines : (length k : ℕ) → Before → List Entry → Checked
check_lines n k b [] = Ok tt
check_lines n k b (e ∷ es) =
    let more = check_lines n (suc k) (line e.start.0 e.reach.0 e.before.0) es in
    pick (entry_good n b e es) more (Err (BadLine k))

-- No line, or a last reach not in 1..65,536, is bad at line 0.
unfoldable pub check_entries : List Entry → Checked
check_entries es = pick (within 1 65536 (last_reach es)) (check_lines (text_length es) 0 nothing es) (Err (BadLine 0))

-- So are more lines than the lent table holds.
unfoldable pub check_table : (lines : ℕ) → List ℕ → Checked
check_table lines t = pick (leb lines (capacity_of entry_numbers t)) (check_entries (entries_in lines t)) (Err (BadLine 0))
