-- `table::affected::check_place` meets its contract (refusal 3, refusal 5, refusal 6, laying again).
use Rattle.std.proofs.Common.{ℕ, sym, ap, ◌∙◌}
use Rattle.std.specs.Prelude.{Option, Result, Ok, Err}
use Rattle.std.specs.Option.{ok_or}
use Rattle.std.specs.Result.{result_ok}
use Rattle.meaning.specs.Refusals.{Checked}
use Rattle.meaning.specs.declared.refusals.Refusal.{Refusal}
use Rattle.meaning.specs.declared.refusals.Refusal.TheVariants.{BadEdit}
use Rattle.laws.specs.Asked.{asked}
use Rattle.table.specs.EditAlone.{place_checked, check_place}
use Rattle.look.proofs.affected.check_place.Goals as goal

-- What is refused, whatever else would be answered.
abbrev refused : Result ℕ Refusal → Checked
refused (Ok n) = Ok tt
refused (Err r) = Err r

pub returns : goal.returns
unfolding check_place
returns c =
    c.check_length.ensures ∙ ap place_checked (sym (c.ok_or.ensures.ok_part ∙ ap result_ok c.in_ok-whole.was) ∙ c.edited_whole.ensures)

pub returns-in_err-whole : goal.returns-in_err-whole
unfolding check_place
returns-in_err-whole c =
    let none = c.ok_or.ensures.ok_part ∙ ap result_ok c.in_err-whole.was in
    asked _ c.from_residual.ensures.1
    ∙ ap refused (sym c.in_err-whole.was ∙ c.ok_or.ensures.value ∙ ap (λ (o : Option ℕ). ok_or o BadEdit) none)
    ∙ ap place_checked (sym none ∙ c.edited_whole.ensures)
