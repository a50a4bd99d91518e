-- Demand 3, by the contracts of the calls: lent an edit of a text and the table of its layout (`EditOf`), laying again leaves exactly the
-- table that a fresh layout of the whole new text writes.
-- Assumes nothing.
use Rattle.std.specs.Prelude.{ℕ, ◌*◌, ◌≡◌, List, map, length, take, drop, Ok, Result}
use Rattle.meaning.specs.declared.refusals.Refusal.{Refusal}
use Rattle.meaning.specs.declared.answers.Relaid.{Relaid}
use Rattle.std.proofs.Math.Path.{ap}
use Rattle.std.proofs.Common.{◌∙◌}
use contract.Lifetimes.{Lfts}
use Rattle.utf8.specs.Encoding.{encode_all}
use Rattle.meaning.specs.Settings.{settings_of}
use Rattle.meaning.specs.Checks.{check_settings}
use Rattle.meaning.specs.Layout.{layout, entry_of_row}
use Rattle.meaning.specs.Table.{entry_numbers, entries_in}
use Rattle.meaning.specs.Edit.{unaffected}
use Rattle.meaning.specs.Calls.{layout_answer, layout_table, lines_laid, relay_table}
use Rattle.meaning.specs.Answers.{answer_number, count_value, relayValue, relayCount}
use Rattle.meaning.specs.declared.settings.Settings.{Settings}
use Rattle.meaning.specs.declared.edit.Edit.{Edit}
use Rattle.laws.specs.TableLaws.{entries_written}
use Rattle.promises.specs.Demand3Calls.{EditOf, demand_3_holds}
use Rattle.promises.specs.SameLines.{SameLines}
use Rattle.promises.specs.EditSettings.{edit-by}
use Rattle.promises.specs.Passed.{Lent, LentNumber, LentMut}
use Rattle.promises.specs.CallContracts.{FirstAffected, LayAgain, CFirstAffected, CLayAgain}

-- Of the lines laid, and of the table afterwards. Lines are numbered from 0, so that the first affected one has the number of those
-- before it.
pub record Demand3Of (s : Settings) (ed : Edit) (old new table : List ℕ) (lines : ℕ) (part after : List ℕ) : Type 0 where
  -- The lines laid are lines of the new text, from the first affected one on.
  pub laid : map entry_of_row (lines_laid s part table lines ed)
      ≡ take (length (lines_laid s part table lines ed)) (drop (length (unaffected ed.from.0 (layout s old))) (layout s new))
  -- The table holds the layout of the new text.
  pub holds : entries_in (length (layout s new)) after ≡ layout s new
  -- A fresh layout of the new text answers as many lines and leaves exactly that table.
  pub fresh_answer : layout_answer s (encode_all new) table ≡ Ok (length (layout s new))
  pub fresh_table : after ≡ layout_table s (encode_all new) table
  -- The entries before the first affected line are as they were, and so is everything past the last line.
  pub before_untouched : take (entry_numbers * length (unaffected ed.from.0 (layout s old))) after
      ≡ take (entry_numbers * length (unaffected ed.from.0 (layout s old))) table
  pub past_untouched : drop (entry_numbers * length (layout s new)) after ≡ drop (entry_numbers * length (layout s new)) table

demand_3_of : {s : Settings} {ed : Edit} {old new table : List ℕ} {lines : ℕ} {part : List ℕ} (after : List ℕ)
    → EditOf s ed old new table lines part → after ≡ relay_table s part table lines ed → Demand3Of s ed old new table lines part after
demand_3_of {s} {ed} {old} {new} {table} after k e =
    let d = demand_3_holds k in
    let n = entry_numbers * length (unaffected ed.from.0 (layout s old)) in
    record {
      laid = d.relay_laid;
      holds = ap (entries_in (length (layout s new))) (e ∙ d.relay_table_lem) ∙ entries_written (layout s new) table;
      fresh_answer = d.fresh_call;
      fresh_table = e ∙ d.fresh_table;
      before_untouched = ap (take n) e ∙ d.before_untouched;
      past_untouched = ap (drop (entry_numbers * length (layout s new))) e ∙ d.past_untouched;
    }

-- ---- the first affected line, where the table is lent to be read

module _ (s : Settings) (ed : Edit) (old new : List ℕ) (part table : Lent) (lines : ℕ) where
  -- Asked for the first affected line, the library answers its number.
  pub first-affected_demand_3 : (κs : Lfts 1) (z : Result ℕ Refusal) → EditOf s ed old new table.now lines part.now
      → FirstAffected κs table lines ed z → z ≡ Ok (length (unaffected ed.from.0 (layout s old)))
  first-affected_demand_3 κs z k p = p ∙ (demand_3_holds k).affected_call

  -- The same for C.
  pub c-first-affected_demand_3 : (κs : Lfts 2) (value : LentNumber) (z value' : ℕ) → EditOf s ed old new table.now lines part.now
      → CFirstAffected κs table lines ed value z value' → (z ≡ 0) × (value' ≡ length (unaffected ed.from.0 (layout s old)))
  c-first-affected_demand_3 κs value z value' k p =
      let d = (demand_3_holds k).affected_call in
      (p.0 ∙ ap answer_number d, p.1 ∙ ap count_value d)

-- ---- laying again, where it is lent to be written

module _ (s : Settings) (ed : Edit) (old new : List ℕ) (part : Lent) (table : LentMut) (lines : ℕ) where
  -- ---- in Rattle

  -- The edit is not refused: the answer is how many lines the new text has, and how many were laid.
  abbrev pub LaidAgain : Result Relaid Refusal → (after : List ℕ) → Type 0
  LaidAgain z after =
      (z ≡ Ok (record { lines = length (layout s new); laid = length (lines_laid s part.now table.now lines ed) }))
      × Demand3Of s ed old new table.now lines part.now after

  pub lay_again_demand_3 : (κs : Lfts 2) (z : Result Relaid Refusal) (after : List ℕ) → EditOf s ed old new table.now lines part.now
      → LayAgain κs s part table lines ed z after → LaidAgain z after
  lay_again_demand_3 κs z after k p = (p.0 ∙ (demand_3_holds k).relay_call, demand_3_of after k p.1)

  -- The settings that no line depends on may have changed since the old text was laid.
  pub lay_again_other_settings : (κs : Lfts 2) (former : Settings) (z : Result Relaid Refusal) (after : List ℕ) → SameLines former s → check_settings s ≡ Ok tt
      → EditOf former ed old new table.now lines part.now → LayAgain κs s part table lines ed z after → LaidAgain z after
  lay_again_other_settings κs former z after same good k p = lay_again_demand_3 κs z after (edit-by same good k) p

  -- ---- for C

  -- 0 is returned, and both counts are written.
  abbrev pub CLaidAgain : (z : ℕ) (after : List ℕ) (value' laid' : ℕ) → Type 0
  CLaidAgain z after value' laid' =
      (z ≡ 0) × (value' ≡ length (layout s new)) × (laid' ≡ length (lines_laid s part.now table.now lines ed))
      × Demand3Of s ed old new table.now lines part.now after

  pub c_lay_again_demand_3 : (κs : Lfts 4) (value laid : LentNumber) (z : ℕ) (after : List ℕ) (value' laid' : ℕ)
      → EditOf s ed old new table.now lines part.now → CLayAgain κs s part table lines ed value laid z after value' laid'
      → CLaidAgain z after value' laid'
  unfolding settings_of
  c_lay_again_demand_3 κs value laid z after value' laid' k p =
      let d = (demand_3_holds k).relay_call in (
        p.0 ∙ ap answer_number d,
        p.1.1.0 ∙ ap relayValue d,
        p.1.1.1 ∙ ap (λ (x : Result Relaid Refusal). relayCount x laid.now) d,
        demand_3_of after k p.1.0,
      )

  pub c_lay_again_other_settings : (κs : Lfts 4) (former : Settings) (value laid : LentNumber) (z : ℕ) (after : List ℕ) (value' laid' : ℕ)
      → SameLines former s → check_settings s ≡ Ok tt → EditOf former ed old new table.now lines part.now
      → CLayAgain κs s part table lines ed value laid z after value' laid' → CLaidAgain z after value' laid'
  c_lay_again_other_settings κs former value laid z after value' laid' same good k p =
      c_lay_again_demand_3 κs value laid z after value' laid' (edit-by same good k) p
