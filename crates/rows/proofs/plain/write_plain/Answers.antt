use Rattle.std.proofs.Common.{refl}
use Rattle.std.proofs.lemmas.Option.{MatchOption-at_some}
use Rattle.rows.specs.Drawers.{can-room, can_on, gone_then}
use Rattle.rows.specs.DrawnLines.{found-gone}
use Rattle.rows.proofs.plain.write_plain.Goals as goal

pub write_entry-requires : goal.write_entry-requires
write_entry-requires g c =
    can-room (can_on c.requires c.loop-line.invariant)

pub loop-line-preserved : goal.loop-line-preserved
loop-line-preserved g c =
    let row = (MatchOption-at_some _ _ _ c.in-Some.is c.plain_row.ensures).row in
    gone_then c.loop-line.invariant
    (found-gone c.args.r (can_on c.requires c.loop-line.invariant) row c.plain_entry-entry.ensures c.write_entry.ensures c.write_entry.auto.table c.plain.ensures refl)
