-- `edits::checking::ends_fit` meets its contract (refusal 1, refusal 2, refusal 3, refusal 4, refusal 5, refusal 6).
use Rattle.std.proofs.Common.{◌∙◌, ◌&&◌}
use Rattle.edits.proofs.CheckLaws.{ends-tested}
use Rattle.edits.proofs.checking.ends_fit.Goals as goal

pub returns : goal.returns
returns c =
    (λ i. c.is_boundary.ensures i && c.is_boundary-2.ensures i)
    ∙ ends-tested c.args.part.now c.args.edit c.args.e _ _ c.requires c.saturating_sub-front.ensures c.saturating_sub-end.ensures
