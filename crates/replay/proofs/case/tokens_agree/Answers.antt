-- `replay::case::tokens_agree` meets its contract.
use Rattle.std.proofs.Common.{sym, ◌∙◌}
use Rattle.replay.proofs.CallLaws.{tokens_agreed}
use Rattle.replay.proofs.SameLaws.{equal-pointwise}
use Rattle.replay.proofs.case.tokens_agree.Goals as goal

pub returns : goal.returns
returns c =
    λ e.
    tokens_agreed _ _ c.tokenize.new.buffer _ c.in-Ok.n c.in-Ok.ensures.value c.in-Ok.ensures.buffer_after
    (sym (equal-pointwise _ _) ∙ sym c.eq.ensures ∙ e)
