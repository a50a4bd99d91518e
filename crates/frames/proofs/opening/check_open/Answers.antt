-- `frames::opening::check_open` meets its contract (refusal 1, refusal 2, refusal 3, refusal 4).
use Rattle.std.proofs.Common.{sym, ◌∙◌}
use Rattle.frames.specs.FrameChecks.{settings-refused, text_decides}
use Rattle.laws.specs.Asked.{asked}
use Rattle.frames.proofs.opening.check_open.Goals as goal

pub returns-in_err-check_settings : goal.returns-in_err-check_settings
returns-in_err-check_settings c =
    asked _ c.from_residual.ensures.1 ∙ settings-refused _ _ _ (sym c.check_settings.ensures ∙ c.in_err-check_settings.was)

pub returns : goal.returns
returns c =
    c.check_text.ensures ∙ text_decides _ _ (sym c.check_settings.ensures ∙ c.in_ok-check_settings.was)
