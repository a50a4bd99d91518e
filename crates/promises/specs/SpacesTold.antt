-- What the table that a layout call writes tells of a line's spaces: they are plain, or share out the line's room. By the contracts of
-- the calls.
-- Assumes nothing.
use Rattle.std.specs.Prelude.{ℕ, List, Ok}
use Rattle.std.proofs.Common.{sym, subst}
use contract.Lifetimes.{Lfts}
use Rattle.utf8.specs.Decoding.{decode_all}
use Rattle.meaning.specs.Table.{entries_in}
use Rattle.meaning.specs.Layout.{layout}
use Rattle.meaning.specs.Calls.{text_rows, text_entries}
use Rattle.meaning.specs.declared.settings.Settings.{Settings}
use Rattle.laws.specs.RowInduction.{Each}
use Rattle.promises.specs.TableSpaces.{EntrySaid, table-spaces}
use Rattle.promises.specs.Passed.{Lent, LentNumber, LentMut}
use Rattle.promises.specs.CallContracts.{Layout, CLayout}
use Rattle.promises.specs.TableHolds.{layout-table-holds, c-layout-table-holds}

module _ (s : Settings) (text : Lent) (table : LentMut) where
  entries_tell : Each (EntrySaid s) (text_entries s text.now)
  unfolding text_entries text_rows layout
  entries_tell = table-spaces s (decode_all text.now)

  pub layout-spaces-told : (κs : Lfts 2) (n : ℕ) (after : List ℕ) → Layout κs s text table (Ok n) after
      → Each (EntrySaid s) (entries_in n after)
  layout-spaces-told κs n after p = subst (Each (EntrySaid s)) (sym (layout-table-holds s text table κs n after p)) entries_tell

  -- For C: where it returns 0, of as many lines as it says.
  pub c-layout-spaces-told : (κs : Lfts 3) (value : LentNumber) (after : List ℕ) (lines : ℕ) → CLayout κs s text table value 0 after lines
      → Each (EntrySaid s) (entries_in lines after)
  c-layout-spaces-told κs value after lines p =
      subst (Each (EntrySaid s)) (sym (c-layout-table-holds s text table κs value after lines p)) entries_tell
