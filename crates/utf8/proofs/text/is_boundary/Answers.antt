-- `utf8::text::is_boundary` meets its contract (refusal 4, refusal 6).
use Rattle.utf8.proofs.Steps.{boundary-byte, boundary_end}
use Rattle.utf8.proofs.text.is_boundary.Goals as goal

pub returns-then-at-text : goal.returns-then-at-text
returns-then-at-text c =
    boundary-byte c.args.text.now c.args.at c.if-at-text.true _ c.is_cont.ensures

pub returns : goal.returns
returns c =
    boundary_end c.args.text.now c.args.at c.if-at-text.false
