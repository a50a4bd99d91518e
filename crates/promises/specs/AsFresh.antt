-- Demand 3 between two calls: what laying again leaves is what a fresh layout of the whole new text leaves, each by its own contract.
-- Assumes nothing.
use Rattle.std.specs.Prelude.{ℕ, ◌≡◌, List, Ok, Result}
use Rattle.meaning.specs.declared.refusals.Refusal.{Refusal}
use Rattle.meaning.specs.declared.answers.Relaid.{Relaid}
use Rattle.std.proofs.Math.Path.{sym, ap}
use Rattle.std.proofs.Common.{◌∙◌}
use contract.Lifetimes.{Lfts}
use Rattle.utf8.specs.Encoding.{encode_all}
use Rattle.meaning.specs.Settings.{settings_of}
use Rattle.meaning.specs.Calls.{layout_answer, layout_table}
use Rattle.meaning.specs.Answers.{answer_number, count_value, relayValue}
use Rattle.meaning.specs.declared.settings.Settings.{Settings}
use Rattle.meaning.specs.declared.edit.Edit.{Edit}
use Rattle.promises.specs.Demand3Calls.{EditOf}
use Rattle.promises.specs.Passed.{Lent, LentNumber, LentMut}
use Rattle.promises.specs.CallContracts.{Layout, LayAgain, CLayout, CLayAgain}
use Rattle.promises.specs.Demand3.{lay_again_demand_3, c_lay_again_demand_3}

-- The whole new text, and a table that holds the same as the one that laying again was lent.
module _ (s : Settings) (ed : Edit) (old new : List ℕ) (part : Lent) (table : LentMut) (lines : ℕ) (k : EditOf s ed old new table.now lines part.now)
    (text : Lent) (other : LentMut) (whole : text.now ≡ encode_all new) (same : other.now ≡ table.now)
  where
    -- The fresh layout, of what is lent to it.
    here : (after : List ℕ) → after ≡ layout_table s (encode_all new) table.now → after ≡ layout_table s text.now other.now
    here after e = e ∙ (λ i. layout_table s (sym whole i) (sym same i))

    answers : (n : ℕ) → layout_answer s (encode_all new) table.now ≡ Ok n → layout_answer s text.now other.now ≡ Ok n
    answers n e = (λ i. layout_answer s (whole i) (same i)) ∙ e

    -- Both calls answer the same number, 0, and the same count of lines, and leave the same table.
    pub lay_again_as_fresh : (κs κs' : Lfts 2) (z : Result Relaid Refusal) (z' : Result ℕ Refusal) (after after' : List ℕ) → LayAgain κs s part table lines ed z after
        → Layout κs' s text other z' after' → (answer_number z ≡ answer_number z') × (relayValue z ≡ count_value z') × (after ≡ after')
    lay_again_as_fresh κs κs' z z' after after' p q =
        let d = lay_again_demand_3 s ed old new part table lines κs z after k p in
        let f = q.0 ∙ answers _ d.1.fresh_answer in (
          ap answer_number d.0 ∙ sym (ap answer_number f),
          ap relayValue d.0 ∙ sym (ap count_value f),
          here after d.1.fresh_table ∙ sym q.1,
        )

    pub c_lay_again_as_fresh : (κs : Lfts 4) (κs' : Lfts 3) (value laid fresh-value : LentNumber) (z z' : ℕ) (after after' : List ℕ)
        (count laid' count' : ℕ) → CLayAgain κs s part table lines ed value laid z after count laid'
        → CLayout κs' s text other fresh-value z' after' count' → (z ≡ z') × (count ≡ count') × (after ≡ after')
    unfolding settings_of
    c_lay_again_as_fresh κs κs' value laid fresh-value z z' after after' count laid' count' p q =
        let d = c_lay_again_demand_3 s ed old new part table lines κs value laid z after count laid' k p in
        let f = answers _ d.3.fresh_answer in (
          d.0 ∙ sym (q.0 ∙ ap answer_number f),
          d.1 ∙ sym (q.1.1 ∙ ap count_value f),
          here after d.3.fresh_table ∙ sym q.1.0,
        )
