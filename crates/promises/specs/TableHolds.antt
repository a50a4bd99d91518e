-- Where a layout call is done, its table holds the lines of the text, by the contracts of the calls.
-- Assumes nothing.
use Rattle.std.specs.Prelude.{ℕ, ◌≡◌, List, Ok}
use Rattle.std.proofs.Common.{sym, ◌∙◌}
use Rattle.std.proofs.Math.Path.{ap}
use contract.Lifetimes.{Lfts}
use Rattle.meaning.specs.Settings.{settings_of}
use Rattle.meaning.specs.Table.{entries_in}
use Rattle.meaning.specs.Calls.{text_entries, layout_answer}
use Rattle.meaning.specs.declared.settings.Settings.{Settings}
use Rattle.promises.specs.LayoutCalls.{layout-holds}
use Rattle.promises.specs.Passed.{Lent, LentNumber, LentMut}
use Rattle.promises.specs.CallContracts.{Layout, CLayout}
use Rattle.promises.specs.Unwritten.{layout-done}

module _ (s : Settings) (text : Lent) (table : LentMut) where
  pub layout-table-holds : (κs : Lfts 2) (n : ℕ) (after : List ℕ) → Layout κs s text table (Ok n) after
      → entries_in n after ≡ text_entries s text.now
  layout-table-holds κs n after p = ap (entries_in n) p.1 ∙ layout-holds s text.now table.now n (sym p.0)

  -- For C: where it returns 0, as many lines as it says.
  pub c-layout-table-holds : (κs : Lfts 3) (value : LentNumber) (after : List ℕ) (lines : ℕ) → CLayout κs s text table value 0 after lines
      → entries_in lines after ≡ text_entries s text.now
  unfolding settings_of
  c-layout-table-holds κs value after lines p =
      let a = layout_answer s text.now table.now in
      ap (entries_in lines) p.1.0 ∙ layout-holds s text.now table.now lines (layout-done a (sym p.0) ∙ ap Ok (sym p.1.1))
