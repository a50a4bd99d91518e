-- `table::plain::breaks_softly` meets its contract (refusal 5).
use Rattle.std.proofs.Common.{eqb-true}
use Rattle.look.proofs.PlainTurns.{soft_end_lem}
use Rattle.look.proofs.plain.breaks_softly.Goals as goal

pub returns : goal.returns
returns c e =
    soft_end_lem _ _ _ c.pair.ensures (eqb-true _ _ e)
