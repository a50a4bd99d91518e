-- The search for the first affected line, line by line.
-- Assumes nothing.
use Prim.Native.Nat.{ℕ, suc, ◌+◌, ◌*◌, ◌≤◌, ◌<◌}
use mathlib.Core.Path.{◌≡◌}
use mathlib.Core.List.{List}
use borrow.Author.Tests.{le-leb, lt-leb}
use lib.ListN.{length, get_or}
use Rattle.basis.specs.Choice.{pick}
use Rattle.meaning.specs.Edit.{unaffected}
use Rattle.meaning.specs.Table.{entry_numbers}
use Rattle.table.specs.LinesFrom.{lines_from, lines_more, lines_end, reach-at}

module _ (t : List ℕ) (lines k a : ℕ) where
  pub search-past : k < lines → get_or t (entry_numbers * k + 9) 0 ≤ a
      → length (unaffected a (lines_from t lines k)) ≡ suc (length (unaffected a (lines_from t lines (k + 1))))
  unfolding unaffected pick
  search-past h r = rw (lines_more t lines k h, reach-at t k, le-leb _ _ r)

  pub search-met : k < lines → a < get_or t (entry_numbers * k + 9) 0 → length (unaffected a (lines_from t lines k)) ≡ 0
  unfolding unaffected pick
  search-met h r = rw (lines_more t lines k h, reach-at t k, lt-leb _ _ r)

  pub search-end : lines ≤ k → length (unaffected a (lines_from t lines k)) ≡ 0
  unfolding unaffected
  search-end h = rw (lines_end t lines k h)
