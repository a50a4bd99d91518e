-- Lines written to a table from a line on, one after the other.
-- Assumes nothing.
use Rattle.std.specs.Prelude.{ℕ, ◌+◌, ◌*◌, ◌≤◌, ◌≡◌, List, [], ◌∷◌, length}
use Rattle.std.proofs.Common.{zero-add, arith, sym, ap, ◌∙◌}
use Rattle.meaning.specs.Table.{entry_numbers, of_entry, of_all, written}
use Rattle.meaning.specs.declared.line.Entry.{Entry}
use Rattle.laws.specs.TableLaws.{entry-numbers}
use Rattle.table.specs.Numbers.{put_numbers}
use Rattle.table.specs.Stretches.{join_behind, put-none}

-- A table with these lines written from line k on.
abbrev pub lines_put : List ℕ → (k : ℕ) → List Entry → List ℕ
lines_put t k es = put_numbers t (entry_numbers * k) (of_all of_entry es)

pub none-put : (t : List ℕ) (k : ℕ) → lines_put t k [] ≡ t
unfolding of_all
none-put t k = put-none t (entry_numbers * k)

-- One line is written, and then the others.
pub first-put : (t : List ℕ) (k : ℕ) (e : Entry) (es : List Entry) → entry_numbers * k ≤ length t
    → lines_put t k (e ∷ es) ≡ lines_put (put_numbers t (entry_numbers * k) (of_entry e)) (k + 1) es
unfolding of_all
first-put t k e es h =
    let place : entry_numbers * k + length (of_entry e) ≡ entry_numbers * (k + 1) = omega (arith, entry-numbers e) in
    sym (join_behind t (entry_numbers * k) (of_entry e) h (of_all of_entry es))
    ∙ ap (λ (i : ℕ). put_numbers (put_numbers t (entry_numbers * k) (of_entry e)) i (of_all of_entry es)) place

-- From the first line on.
pub all-put : (t : List ℕ) (es : List Entry) → lines_put t 0 es ≡ written t (of_all of_entry es)
unfolding put_numbers written
all-put t es = rw (zero-add (length (of_all of_entry es)))
