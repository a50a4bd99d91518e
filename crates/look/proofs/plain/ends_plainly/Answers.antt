-- `table::plain::ends_plainly` meets its contract (refusal 5).
use Rattle.std.proofs.Common.{ltb-true}
use Rattle.look.proofs.SkipTurns.{below-good}
use Rattle.look.proofs.plain.ends_plainly.Goals as goal

pub returns : goal.returns
returns c e =
    record { none = c.if-table-at-ne0.false; ending = below-good _ (ltb-true _ _ e) }
