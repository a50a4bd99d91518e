-- `layout::checked::check_layout` meets its contract (refusal 1, refusal 2, refusal 3, refusal 4, refusal 8).
use Rattle.std.proofs.Common.{sym, ◌∙◌}
use Rattle.rows.specs.GoodInput.{text-ready}
use Rattle.layout.specs.Checking.{settings-refused, text-refused, room_decides}
use Rattle.laws.specs.Asked.{asked}
use Rattle.layout.proofs.checked.check_layout.Goals as goal

pub returns-in_err-check_settings : goal.returns-in_err-check_settings
returns-in_err-check_settings c =
    asked _ c.from_residual.ensures.1 ∙ settings-refused _ _ _ _ (sym c.check_settings.ensures ∙ c.in_err-check_settings.was)

pub returns-in_err-check_text : goal.returns-in_err-check_text
returns-in_err-check_text c =
    asked _ c.from_residual-in_err-check_text.ensures.1 ∙ text-refused _ _ _ (sym c.check_settings.ensures ∙ c.in_ok-check_settings.was) _ (sym c.check_text.ensures ∙ c.in_err-check_text.was)

pub check_lines-requires : goal.check_lines-requires
check_lines-requires c =
    text-ready _ (sym c.check_settings.ensures ∙ c.in_ok-check_settings.was) _ (sym c.check_text.ensures ∙ c.in_ok-check_text.was)

pub returns : goal.returns
returns c =
    c.check_lines.ensures
    ∙ sym (room_decides _ _ _ (sym c.check_settings.ensures ∙ c.in_ok-check_settings.was) (sym c.check_text.ensures ∙ c.in_ok-check_text.was))
