-- After an edit, the index that is made again from the first affected line on is exactly the one that is made afresh of the new text's
-- table, for every vertical alignment. By the contracts of the calls.
-- Assumes nothing.
use Rattle.std.specs.Prelude.{ℕ, ◌≡◌, refl, List, ℤ, length, take, Err, Ok, Result}
use Rattle.meaning.specs.Refusals.{Checked}
use Rattle.meaning.specs.declared.refusals.Refusal.{Refusal}
use Rattle.meaning.specs.declared.answers.Relaid.{Relaid}
use Rattle.std.proofs.Math.Path.{sym, ap}
use Rattle.std.proofs.Common.{◌∙◌, eq-eqb}
use contract.Lifetimes.{Lfts}
use Rattle.basis.specs.Choice.{pick}
use Rattle.meaning.specs.Settings.{settings_of}
use Rattle.meaning.specs.Layout.{layout}
use Rattle.meaning.specs.Edit.{unaffected}
use Rattle.meaning.specs.Checks.{afterwards}
use Rattle.meaning.specs.YIndex.{index_of, written_from, kept_before}
use Rattle.meaning.specs.Calls.{check_indexing, index_answer, index_from, index_after, index_again_after}
use Rattle.meaning.specs.Answers.{answer_number, count_value}
use Rattle.meaning.specs.declared.settings.Settings.{Settings}
use Rattle.meaning.specs.declared.edit.Edit.{Edit}
use Rattle.promises.specs.Demand3Calls.{EditOf}
use Rattle.promises.specs.WrittenYs.{written-before}
use Rattle.promises.specs.IndexedAgain.{index_call_again}
use Rattle.promises.specs.Passed.{Lent, LentNumber, LentMut, LentYsMut}
use Rattle.promises.specs.CallContracts.{LayAgain, MakeIndex, MakeIndexAgain, CLayAgain, CIndex, CIndexAgain}
use Rattle.promises.specs.Demand3.{Demand3Of, lay_again_demand_3, c_lay_again_demand_3}

-- Where the text stands at the top, no entry before the given line is written.
before-kept : (s : Settings) (first : ℕ) → s.vertical ≡ 0 → (c : Checked) (index ys : List ℤ)
    → take first (afterwards c (written_from (kept_before s first) index ys) index) ≡ take first index
unfolding kept_before pick
before-kept s first e (Ok tt) index ys = rw (eq-eqb _ _ e) (written-before first index ys)
before-kept s first e (Err r) index ys = refl

module _ (s : Settings) (top : s.vertical ≡ 0) (table : Lent) (lines first : ℕ) (index : LentYsMut) (after : List ℤ) where
  kept : after ≡ index_again_after s table.now lines first index.now → take first after ≡ take first index.now
  unfolding index_again_after index_from
  kept e = ap (take first) e ∙ before-kept s first top (check_indexing s table.now lines (length index.now)) index.now _

  pub index-again-keeps : (κs : Lfts 2) (z : Result ℕ Refusal) → MakeIndexAgain κs s table lines first index z after
      → take first after ≡ take first index.now
  index-again-keeps κs z p = kept p.1

  pub c-index-again-keeps : (κs : Lfts 3) (value : LentNumber) (z made : ℕ) → CIndexAgain κs s table lines first index value z after made
      → take first after ≡ take first index.now
  unfolding settings_of
  c-index-again-keeps κs value z made p = kept p.1.0

-- An edit, the table that laying again left, and two tables that hold the same: one lent to make the index again, one to make it afresh.
-- The two indexes hold the same too, and in it the ys of the old lines.
module _ (s : Settings) (ed : Edit) (old new : List ℕ) (part : Lent) (table : LentMut) (lines : ℕ) (k : EditOf s ed old new table.now lines part.now)
    (after : List ℕ) (laid fresh : Lent) (laid-is : laid.now ≡ after) (fresh-is : fresh.now ≡ after)
    (index other : LentYsMut) (same : other.now ≡ index.now) (held : take lines index.now ≡ index_of s (layout s old))
  where
    abbrev count : ℕ
    count = length (layout s new)

    abbrev first : ℕ
    first = length (unaffected ed.from.0 (layout s old))

    again-is : Demand3Of s ed old new table.now lines part.now after
        → index_again_after s laid.now count first index.now ≡ index_after s fresh.now count other.now
    again-is d =
        ap (λ (t : List ℕ). index_again_after s t count first index.now) laid-is
        ∙ index_call_again k after index.now d.holds held
        ∙ (λ i. index_after s (sym fresh-is i) count (sym same i))

    answers : index_answer s laid.now count index.now ≡ index_answer s fresh.now count other.now
    answers = λ i. index_answer s ((laid-is ∙ sym fresh-is) i) count (sym same i)

    -- Both calls answer the same, and leave the same index.
    pub index-again_as_fresh : (κs κs' κs'' : Lfts 2) (z : Result Relaid Refusal) (a b : Result ℕ Refusal) (ys zs : List ℤ) → LayAgain κs s part table lines ed z after
        → MakeIndexAgain κs' s laid count first index a ys → MakeIndex κs'' s fresh count other b zs → (a ≡ b) × (ys ≡ zs)
    index-again_as_fresh κs κs' κs'' z a b ys zs p q r =
        let d = (lay_again_demand_3 s ed old new part table lines κs z after k p).1 in
        (q.0 ∙ answers ∙ sym r.0, q.1 ∙ again-is d ∙ sym r.1)

    pub c-index-again_as_fresh : (κs : Lfts 4) (κs' κs'' : Lfts 3) (value count-laid again-value fresh-value : LentNumber) (z a b : ℕ)
        (ys zs : List ℤ) (n m made made' : ℕ) → CLayAgain κs s part table lines ed value count-laid z after n m
        → CIndexAgain κs' s laid count first index again-value a ys made → CIndex κs'' s fresh count other fresh-value b zs made'
        → (a ≡ b) × (made ≡ made') × (ys ≡ zs)
    unfolding settings_of
    c-index-again_as_fresh κs κs' κs'' value count-laid again-value fresh-value z a b ys zs n m made made' p q r =
        let d = (c_lay_again_demand_3 s ed old new part table lines κs value count-laid z after n m k p).3 in (
          q.0 ∙ ap answer_number answers ∙ sym r.0,
          q.1.1 ∙ ap count_value answers ∙ sym r.1.1,
          q.1.0 ∙ again-is d ∙ sym r.1.0,
        )
