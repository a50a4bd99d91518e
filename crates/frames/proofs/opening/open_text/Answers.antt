-- `frames::opening::open_text` meets its contract (refusal 1, refusal 2, refusal 3, refusal 4).
use Rattle.std.proofs.Common.{sym, ◌∙◌}
use Rattle.frames.specs.FrameChecks.{open_refused, open_done}
use Rattle.laws.specs.Asked.{asked}
use Rattle.frames.proofs.opening.open_text.Goals as goal

pub returns-in_err-check_open : goal.returns-in_err-check_open
returns-in_err-check_open c =
    asked _ c.from_residual.ensures.1 ∙ open_refused _ _ _ (sym c.check_open.ensures ∙ c.in_err-check_open.was)

pub returns : goal.returns
returns c =
    open_done _ _ (sym c.check_open.ensures ∙ c.in_ok-check_open.was)
