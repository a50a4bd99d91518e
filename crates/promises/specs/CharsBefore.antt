-- The last number of each line is the number of characters before it: in the table that a layout call writes, and in the one that
-- laying again leaves. By the contracts of the calls. Rule 12.
-- Assumes nothing.
use Rattle.std.specs.Prelude.{ℕ, List, length, Ok, Result}
use Rattle.meaning.specs.declared.refusals.Refusal.{Refusal}
use Rattle.meaning.specs.declared.answers.Relaid.{Relaid}
use Rattle.std.proofs.Common.{sym, subst}
use contract.Lifetimes.{Lfts}
use Rattle.utf8.specs.Decoding.{decode_all}
use Rattle.meaning.specs.Table.{entries_in}
use Rattle.meaning.specs.Layout.{layout}
use Rattle.meaning.specs.Calls.{text_rows, text_entries}
use Rattle.meaning.specs.declared.settings.Settings.{Settings}
use Rattle.meaning.specs.declared.edit.Edit.{Edit}
use Rattle.meaning.specs.declared.line.Entry.{Entry}
use Rattle.laws.specs.RowInduction.{Each}
use Rattle.laws.specs.CharsBefore.{CountsBefore, layout-counts}
use Rattle.promises.specs.Demand3Calls.{EditOf}
use Rattle.promises.specs.Passed.{Lent, LentNumber, LentMut}
use Rattle.promises.specs.CallContracts.{Layout, LayAgain, CLayout, CLayAgain}
use Rattle.promises.specs.TableHolds.{layout-table-holds, c-layout-table-holds}
use Rattle.promises.specs.Demand3.{lay_again_demand_3, c_lay_again_demand_3}

-- Each of these lines says how many of a text's characters have their bytes before its start.
abbrev pub LinesCount : List ℕ → List Entry → Type 0
LinesCount cs es = Each (CountsBefore cs) es

-- ---- the fresh layout

module _ (s : Settings) (text : Lent) (table : LentMut) where
  entries_count : LinesCount (decode_all text.now) (text_entries s text.now)
  unfolding text_entries text_rows layout
  entries_count = layout-counts s (decode_all text.now)

  pub layout-lines-count : (κs : Lfts 2) (n : ℕ) (after : List ℕ) → Layout κs s text table (Ok n) after
      → LinesCount (decode_all text.now) (entries_in n after)
  layout-lines-count κs n after p =
      subst (LinesCount (decode_all text.now)) (sym (layout-table-holds s text table κs n after p)) entries_count

  -- For C: where it returns 0, of as many lines as it says.
  pub c-layout-lines-count : (κs : Lfts 3) (value : LentNumber) (after : List ℕ) (lines : ℕ) → CLayout κs s text table value 0 after lines
      → LinesCount (decode_all text.now) (entries_in lines after)
  c-layout-lines-count κs value after lines p =
      subst (LinesCount (decode_all text.now)) (sym (c-layout-table-holds s text table κs value after lines p)) entries_count

-- ---- laying again

-- Lent an edit of a text and the table of its layout, of the lines of the new text.
module _ (s : Settings) (ed : Edit) (old new : List ℕ) (part : Lent) (table : LentMut) (lines : ℕ) (k : EditOf s ed old new table.now lines part.now) where
  pub lay_again-lines-count : (κs : Lfts 2) (z : Result Relaid Refusal) (after : List ℕ) → LayAgain κs s part table lines ed z after
      → LinesCount new (entries_in (length (layout s new)) after)
  lay_again-lines-count κs z after p =
      subst (LinesCount new) (sym (lay_again_demand_3 s ed old new part table lines κs z after k p).1.holds) (layout-counts s new)

  pub c_lay_again-lines-count : (κs : Lfts 4) (value laid : LentNumber) (z : ℕ) (after : List ℕ) (value' laid' : ℕ)
      → CLayAgain κs s part table lines ed value laid z after value' laid' → LinesCount new (entries_in value' after)
  c_lay_again-lines-count κs value laid z after value' laid' p =
      let d = c_lay_again_demand_3 s ed old new part table lines κs value laid z after value' laid' k p in
      subst (λ (n : ℕ). LinesCount new (entries_in n after)) (sym d.1) (subst (LinesCount new) (sym d.3.holds) (layout-counts s new))
