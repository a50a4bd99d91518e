-- With words that wait, left aligned and in a box that has room for a glyph, no line of the table that a layout call writes dropped a
-- character, by the contracts of the calls.
-- Assumes nothing.
use Rattle.std.specs.Prelude.{ℕ, List, Ok}
use Rattle.std.proofs.Common.{sym, subst}
use contract.Lifetimes.{Lfts}
use Rattle.utf8.specs.Decoding.{decode_all}
use Rattle.meaning.specs.Table.{entries_in}
use Rattle.meaning.specs.Layout.{layout}
use Rattle.meaning.specs.Calls.{text_rows, text_entries}
use Rattle.meaning.specs.declared.settings.Settings.{Settings}
use Rattle.laws.specs.NothingDropped.{Waits, DropNothing, layout-keeps}
use Rattle.promises.specs.Passed.{Lent, LentNumber, LentMut}
use Rattle.promises.specs.CallContracts.{Layout, CLayout}
use Rattle.promises.specs.TableHolds.{layout-table-holds, c-layout-table-holds}

module _ (s : Settings) (w : Waits s) (text : Lent) (table : LentMut) where
  entries_keep : DropNothing (text_entries s text.now)
  unfolding text_entries text_rows layout
  entries_keep = layout-keeps s w (decode_all text.now)

  pub layout_drops_nothing : (κs : Lfts 2) (n : ℕ) (after : List ℕ) → Layout κs s text table (Ok n) after
      → DropNothing (entries_in n after)
  layout_drops_nothing κs n after p = subst DropNothing (sym (layout-table-holds s text table κs n after p)) entries_keep

  -- For C: where it returns 0, of as many lines as it says.
  pub c-layout_drops_nothing : (κs : Lfts 3) (value : LentNumber) (after : List ℕ) (lines : ℕ) → CLayout κs s text table value 0 after lines
      → DropNothing (entries_in lines after)
  c-layout_drops_nothing κs value after lines p =
      subst DropNothing (sym (c-layout-table-holds s text table κs value after lines p)) entries_keep
