-- `table::plain::following` meets its contract (refusal 5).
use Rattle.look.proofs.PlainTurns.{counts_fit}
use Rattle.look.proofs.plain.following.Goals as goal

pub returns : goal.returns
returns c e =
    record { starts = c.starting-told.ensures c.if-told-ne0.false; counted = counts_fit _ _ _ c.if-chars-table.false c.if-table-at.false }
