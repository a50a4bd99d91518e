-- `edits::checking::check_before` meets its contract (refusal 1, refusal 2, refusal 3, refusal 4, refusal 5, refusal 6).
use Rattle.std.proofs.Common.{sym, ap, ◌∙◌}
use Rattle.meaning.specs.Refusals.{Checked}
use Rattle.meaning.specs.Table.{entries_in}
use Rattle.look.specs.Looking.{looked_over, looked_bad}
use Rattle.edits.specs.Checking.{settings-first, then-lent}
use Rattle.laws.specs.Asked.{asked}
use Rattle.edits.proofs.checking.check_before.Goals as goal

pub returns-in_err-check_settings : goal.returns-in_err-check_settings
returns-in_err-check_settings c =
    asked _ c.from_residual.ensures.1 ∙ looked_bad _ _ _ _ (sym (settings-first _ _ _ _ _ _ (sym c.check_settings.ensures ∙ c.in_err-check_settings.was)))

pub returns : goal.returns
returns c =
    c.check_lent.ensures
    ∙ ap (λ (x : Checked). looked_over c.args.edit.from.0 x (entries_in c.args.lines c.args.table.now))
    (then-lent _ _ _ _ _ (sym c.check_settings.ensures ∙ c.in_ok-check_settings.was))
