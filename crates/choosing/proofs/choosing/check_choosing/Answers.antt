-- `choosing::choosing::check_choosing` meets its contract (refusal 1, refusal 2, refusal 3, refusal 4).
use Rattle.std.proofs.Common.{sym, ◌∙◌}
use Rattle.choosing.specs.Choosing.{limit-refused, settings-refused, long-refused, short_decides}
use Rattle.laws.specs.Asked.{asked}
use Rattle.choosing.proofs.choosing.check_choosing.Goals as goal

pub returns-in_err-check_limit : goal.returns-in_err-check_limit
returns-in_err-check_limit c =
    asked _ c.from_residual.ensures.1 ∙ limit-refused _ _ _ _ _ (sym c.check_limit.ensures ∙ c.in_err-check_limit.was)

pub returns-in_err-check_settings : goal.returns-in_err-check_settings
returns-in_err-check_settings c =
    asked _ c.from_residual-in_err-check_settings.ensures.1 ∙ settings-refused _ _ _ _ (sym c.check_limit.ensures ∙ c.in_ok-check_limit.was) _
    (sym c.check_settings.ensures ∙ c.in_err-check_settings.was)

pub returns-in_err-check_text : goal.returns-in_err-check_text
returns-in_err-check_text c =
    asked _ c.from_residual-in_err-check_text.ensures.1 ∙ long-refused _ _ _ _ (sym c.check_limit.ensures ∙ c.in_ok-check_limit.was)
    (sym c.check_settings.ensures ∙ c.in_ok-check_settings.was) _ (sym c.check_text.ensures ∙ c.in_err-check_text.was)

pub returns : goal.returns
returns c =
    c.check_text-2.ensures
    ∙ short_decides _ _ _ _ (sym c.check_limit.ensures ∙ c.in_ok-check_limit.was)
    (sym c.check_settings.ensures ∙ c.in_ok-check_settings.was) (sym c.check_text.ensures ∙ c.in_ok-check_text.was)
