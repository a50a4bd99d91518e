-- `columns::checked::check_columns` meets its contract (refusal 1, refusal 2, refusal 3, refusal 4).
use Rattle.std.proofs.Common.{◌≡◌, sym, ◌∙◌}
use Rattle.std.specs.Prelude.{Ok}
use Rattle.meaning.specs.Checks.{check_limit}
use Rattle.columns.specs.ColumnChecks.{limit-refused, settings-refused, text_decides}
use Rattle.laws.specs.Asked.{asked}
use Rattle.columns.proofs.checked.check_columns.Goals as goal

pub returns-in_err-check_limit : goal.returns-in_err-check_limit
returns-in_err-check_limit c =
    asked _ c.from_residual.ensures.1 ∙ limit-refused _ _ _ _ (sym c.check_limit.ensures ∙ c.in_err-check_limit.was)

pub returns-in_err-check_settings : goal.returns-in_err-check_settings
returns-in_err-check_settings c =
    asked _ c.from_residual-in_err-check_settings.ensures.1 ∙ settings-refused _ _ _ ((let limited_here : check_limit c.args.h ≡ Ok tt = sym c.check_limit.ensures ∙ c.in_ok-check_limit.was in limited_here)) _ (sym c.check_settings.ensures ∙ c.in_err-check_settings.was)

pub returns : goal.returns
returns c =
    c.check_text.ensures ∙ text_decides _ _ _ ((let limited_here : check_limit c.args.h ≡ Ok tt = sym c.check_limit.ensures ∙ c.in_ok-check_limit.was in limited_here)) (sym c.check_settings.ensures ∙ c.in_ok-check_settings.was)
