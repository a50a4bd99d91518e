-- The index of ys beside a table: rule 11's y of every line, and the line that stands under a y.
-- Rule 11, refusal 10.
-- Assumes nothing.
use Rattle.std.specs.Prelude.{ℕ, zero, suc, List, [], ◌∷◌, eqb, ℤ, length, Err, None, Ok, Option, Result, Some}
use Rattle.meaning.specs.Refusals.{Checked}
use Rattle.meaning.specs.declared.refusals.Refusal.{Refusal}
use Rattle.std.specs.Int.Signed.{le_z}
use Rattle.basis.specs.Choice.{pick}
use Rattle.meaning.specs.Height.{y_of}
use Rattle.meaning.specs.declared.settings.Settings.{Settings}
use Rattle.meaning.specs.declared.line.Entry.{Entry}
use Rattle.meaning.specs.declared.refusals.Refusal.TheVariants.{BadIndex}

-- ---- the index

-- The ys of n lines, from line k on.
unfoldable pub ys_from : Settings → List Entry → (k n : ℕ) → List ℤ
ys_from s es k zero = []
ys_from s es k (suc n) = y_of s k es ∷ ys_from s es (suc k) n

unfoldable pub index_of : Settings → List Entry → List ℤ
index_of s es = ys_from s es 0 (length es)

-- A buffer with these ys in it: the first k entries are kept, and so is what lies past the ys.
unfoldable pub written_from : (k : ℕ) → (buffer ys : List ℤ) → List ℤ
written_from k buffer [] = buffer
written_from k [] (y ∷ ys) = []
written_from zero (x ∷ buffer) (y ∷ ys) = y ∷ written_from zero buffer ys
written_from (suc k) (x ∷ buffer) (y ∷ ys) = x ∷ written_from k buffer ys

-- How many entries are kept after an edit, of which this is the first affected line: at the top those before it. Elsewhere none, since
-- every line moves with the text's height.
unfoldable pub kept_before : Settings → (first : ℕ) → ℕ
kept_before s first = pick (eqb s.vertical 0) first 0

-- ---- the check of an index (refusal 10)

-- The first y that is smaller than the one before it, where lines are numbered from k on and the line before them stands at `before`.
unfoldable pub check_rising : (k : ℕ) → (before : ℤ) → List ℤ → Checked
check_rising k before [] = Ok tt
check_rising k before (y ∷ ys) =
    let more = check_rising (suc k) y ys in
    pick (le_z before y) more (Err (BadIndex k))

unfoldable pub check_ys : List ℤ → Checked
check_ys [] = Ok tt
check_ys (y ∷ ys) = check_rising 1 y ys

-- As many ys as the table has lines, and then none smaller than the one before it.
unfoldable pub check_index : (lines : ℕ) → List ℤ → Checked
check_index lines index = pick (eqb (length index) lines) (check_ys index) (Err (BadIndex (length index)))

-- ---- the line under a y

-- The last line with y at most the given one, where lines are numbered from k on; else what was found before them.
unfoldable pub last_under : (y : ℤ) → (k : ℕ) → (before : Option ℕ) → List ℤ → Option ℕ
last_under y k before [] = before
last_under y k before (z ∷ zs) = last_under y (suc k) (pick (le_z z y) (Some k) before) zs

unfoldable pub find_in : (y : ℤ) → List ℤ → Option ℕ
find_in y index = last_under y 0 None index
