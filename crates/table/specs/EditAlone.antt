-- Refusal 3, refusal 5 and refusal 6 of an edit and a table, without the edited text.
-- Assumes nothing.
use Rattle.std.specs.Prelude.{ℕ, ◌+◌, ◌-◌, ◌≡◌, refl, ◌&&◌, List, [], ◌∷◌, length, Err, None, Ok, Option, Some}
use Rattle.meaning.specs.Refusals.{Checked}
use Rattle.std.proofs.Math.Dec.{leb}
use Rattle.basis.specs.Choice.{pick, by_test}
use Rattle.meaning.specs.Table.{entries_in}
use Rattle.meaning.specs.Checks.{refuse_if, first_of, check_length}
use Rattle.meaning.specs.WellFormed.{text_length, check_table}
use Rattle.meaning.specs.Edit.{in_order, new_length, check_whole, check_order, unaffected}
use Rattle.meaning.specs.Calls.{check_affected, affected_answer}
use Rattle.meaning.specs.declared.edit.Edit.{Edit}
use Rattle.meaning.specs.declared.refusals.Refusal.{Refusal}
use Rattle.meaning.specs.declared.refusals.Refusal.TheVariants.{BadEdit}

-- The length of the edited whole, of a text of so many bytes.
unfoldable pub edited_whole : (length : ℕ) → Edit → Option ℕ
edited_whole n ed =
    pick (leb ed.from.0 ed.to.0 && leb ed.to.0 n) (Some (n + ed.inserted.0 - (ed.to.0 - ed.from.0))) None

-- What is refused of it.
abbrev pub place_checked : Option ℕ → Checked
place_checked (Some n) = check_length n
place_checked None = Err BadEdit

unfoldable pub check_place : (length : ℕ) → Edit → Checked
check_place n ed = place_checked (edited_whole n ed)

first_alone : (c : Checked) → first_of (c ∷ (Ok tt) ∷ (Ok tt) ∷ []) ≡ c
unfolding first_of
first_alone (Ok tt) = refl
first_alone (Err r) = refl

module _ (t : List ℕ) (lines : ℕ) (ed : Edit) where
  pub affected-place : check_table lines t ≡ Ok tt → check_affected t lines ed ≡ check_place (text_length (entries_in lines t)) ed
  unfolding check_affected check_whole check_order check_place edited_whole in_order new_length refuse_if pick first_of
  affected-place h =
      by_test (leb ed.from.0 ed.to.0 && leb ed.to.0 (text_length (entries_in lines t)))
      (λ e. rw (h, e) (first_alone (check_length (new_length (entries_in lines t) ed)))) (λ e. rw (h, e))

  pub affected_bad : (r : Refusal) → check_table lines t ≡ Err r → check_affected t lines ed ≡ Err r
  unfolding check_affected check_whole first_of
  affected_bad r h = rw h

  -- What the call answers.
  pub affected-line : check_affected t lines ed ≡ Ok tt
      → Ok (length (unaffected ed.from.0 (entries_in lines t))) ≡ affected_answer t lines ed
  unfolding affected_answer
  affected-line h = rw h

  pub affected-refused : (r : Refusal) → check_affected t lines ed ≡ Err r → Err r ≡ affected_answer t lines ed
  unfolding affected_answer
  affected-refused r h = rw h
