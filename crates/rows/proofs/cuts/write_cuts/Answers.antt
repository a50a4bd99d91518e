use Rattle.std.proofs.Common.{refl, arith}
use Rattle.rows.specs.Drawers.{can-room, can_on, gone_then}
use Rattle.rows.specs.DrawnLines.{found-gone}
use Rattle.rows.proofs.cuts.write_cuts.Goals as goal

pub write_entry-requires : goal.write_entry-requires
write_entry-requires g c =
    can-room (can_on c.requires.can c.loop-left.invariant.0)

pub loop-left-preserved : goal.loop-left-preserved
loop-left-preserved g c = (
  gone_then c.loop-left.invariant.0
      (found-gone c.args.r (can_on c.requires.can c.loop-left.invariant.0) c.cut_row-next.ensures.found_row c.plain_entry-entry.ensures c.write_entry.ensures
      c.write_entry.auto.table c.part.ensures refl),
  c.cut_row-next.ensures.left_word_2,
  λ _. omega (arith, c.loop-left.invariant.0.went.forward, c.cut_row-next.ensures.found_row.forward),
)
