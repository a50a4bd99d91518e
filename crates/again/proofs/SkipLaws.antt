-- The pointer into the old lines, line by line.
-- Assumes nothing.
use Prim.Native.Nat.{ℕ, suc, ◌+◌, ◌*◌, ◌≤◌, ◌<◌}
use mathlib.Core.Path.{◌≡◌, sym, ap, ◌∙◌}
use mathlib.Core.Bool.{true, false}
use mathlib.Core.List.{List}
use lib.ListN.{get_or, drop}
use Rattle.basis.specs.Choice.{pick}
use Rattle.meaning.specs.Table.{entry_numbers, entry_in}
use Rattle.meaning.specs.Edit.{meets}
use Rattle.meaning.specs.declared.edit.Edit.{Edit}
use Rattle.meaning.specs.declared.line.Rest.{Rest}
use Rattle.meaning.specs.declared.line.Entry.{Entry}
use Rattle.table.specs.LinesFrom.{lines_from, lines_more, lines_end, start-at, before_at}
use Rattle.again.specs.Relaid.{count_of}
use Rattle.edits.specs.Pointer.{stands_before, passing, meets_first}

module _ (ed : Edit) (start : ℕ) (t : List ℕ) (lines i : ℕ) where
  pub skip-past : i < lines → stands_before ed start (get_or t (entry_numbers * i) 0) ≡ true
      → passing ed start (lines_from t lines i) ≡ suc (passing ed start (lines_from t lines (i + 1)))
  unfolding passing pick
  skip-past h b = rw (lines_more t lines i h, start-at t i, b)

  pub skip-met : i < lines → stands_before ed start (get_or t (entry_numbers * i) 0) ≡ false → passing ed start (lines_from t lines i) ≡ 0
  unfolding passing pick
  skip-met h b = rw (lines_more t lines i h, start-at t i, b)

  pub skip-end : lines ≤ i → passing ed start (lines_from t lines i) ≡ 0
  unfolding passing
  skip-end h = rw (lines_end t lines i h)

  pub met-none : (rest : Rest) → lines ≤ i → false ≡ meets_first ed start rest (lines_from t lines i)
  unfolding meets_first
  met-none rest h = rw (lines_end t lines i h)

  pub met-line : (rest : Rest) (e : Entry) → i < lines → e ≡ entry_in (drop (entry_numbers * i) t)
      → meets ed start rest e ≡ meets_first ed start rest (lines_from t lines i)
  unfolding meets_first
  met-line rest e h q = ap (meets ed start rest) q ∙ rw (lines_more t lines i h)

module _ (t : List ℕ) (lines i : ℕ) where
  -- The characters before line i, if there is one.
  pub count_none : lines ≤ i → 0 ≡ count_of (lines_from t lines i)
  count_none h = rw (lines_end t lines i h)

  pub count-line : i < lines → get_or t (entry_numbers * i + 10) 0 ≡ count_of (lines_from t lines i)
  count-line h = rw (lines_more t lines i h) (sym (before_at t i))
