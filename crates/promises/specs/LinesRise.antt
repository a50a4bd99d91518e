-- Every line takes a character unless it ends the text, so that in the table that a layout call writes each line starts above the one
-- before it, the last alone ends the text, and there is at most one line more than the text has characters. By the contracts of the
-- calls.
-- Assumes nothing.
use Rattle.std.specs.Prelude.{ℕ, suc, ◌≤◌, ◌≡◌, List, length, Ok}
use Rattle.std.proofs.Common.{sym, ap, subst, ◌∙◌, arith}
use contract.Lifetimes.{Lfts}
use Rattle.utf8.specs.Decoding.{decode_all}
use Rattle.meaning.specs.Table.{entries_in}
use Rattle.meaning.specs.Layout.{most_lines, layout}
use Rattle.meaning.specs.Calls.{text_rows, text_entries}
use Rattle.meaning.specs.declared.settings.Settings.{Settings}
use Rattle.meaning.specs.declared.line.Entry.{Entry}
use Rattle.laws.specs.TableLaws.{entries_length}
use Rattle.laws.specs.LayoutBounds.{few_entries}
use Rattle.laws.specs.WellFormedLayout.{RisingToEnd, layout-rises-to-end}
use Rattle.promises.specs.Passed.{Lent, LentNumber, LentMut}
use Rattle.promises.specs.CallContracts.{Layout, CLayout}
use Rattle.promises.specs.TableHolds.{layout-table-holds, c-layout-table-holds}

-- Lines that rise to the end of the text, and no more of them than a text of these characters may have.
pub record LinesRise (cs : List ℕ) (es : List Entry) : Type 0 where
  pub rise : RisingToEnd es
  pub few : length es ≤ most_lines cs

module _ (s : Settings) (text : Lent) (table : LentMut) where
  entries_rise : LinesRise (decode_all text.now) (text_entries s text.now)
  unfolding text_entries text_rows layout
  entries_rise =
      let cs = decode_all text.now in
      record { rise = layout-rises-to-end s cs; few = few_entries s cs }

  pub layout-lines-rise : (κs : Lfts 2) (n : ℕ) (after : List ℕ) → Layout κs s text table (Ok n) after
      → LinesRise (decode_all text.now) (entries_in n after) × (n ≤ most_lines (decode_all text.now))
  layout-lines-rise κs n after p =
      let r = subst (LinesRise (decode_all text.now)) (sym (layout-table-holds s text table κs n after p)) entries_rise in
      (r, omega (arith, r.few, entries_length n after))

  -- For C: where it returns 0, of as many lines as it says.
  pub c-layout-lines-rise : (κs : Lfts 3) (value : LentNumber) (after : List ℕ) (lines : ℕ) → CLayout κs s text table value 0 after lines
      → LinesRise (decode_all text.now) (entries_in lines after) × (lines ≤ most_lines (decode_all text.now))
  c-layout-lines-rise κs value after lines p =
      let r = subst (LinesRise (decode_all text.now)) (sym (c-layout-table-holds s text table κs value after lines p)) entries_rise in
      (r, omega (arith, r.few, entries_length lines after))
