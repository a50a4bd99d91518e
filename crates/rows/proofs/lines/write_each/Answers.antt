use Rattle.std.proofs.Common.{arith}
use Rattle.rows.specs.Standing.{next-ready, further, stays}
use Rattle.rows.specs.Turns.{write_start, room-left, write_last, write_next}
use Rattle.rows.specs.DrawnLines.{far-start, far-to-draw, far-next, far-last}
use Rattle.rows.proofs.lines.write_each.Goals as goal

pub loop-s-init : goal.loop-s-init
loop-s-init g c = (
  write_start _ _ _ _ c.requires.text_ready c.at_start-stand.ensures,
  far-start (g.met.D.Drawer.alike _ _) (g.met.D.Drawer.few _ _) c.requires.text_ready _ c.at_start-stand.ensures,
)

pub write_entry-requires : goal.write_entry-requires
write_entry-requires g c =
    room-left _ _ _ _ _ _ c.loop-s.invariant.0 c.requires.text_in_bounds

pub line-k-requires : goal.line-k-requires
line-k-requires g c =
    far-to-draw c.loop-s.invariant.1 c.lay_row-row.ensures

pub returns-then-row-clause-all : goal.returns-then-row-clause-all
returns-then-row-clause-all g c =
    far-last c.loop-s.invariant.1 c.lay_row-row.ensures c.line-k.ensures c.if-row.true

pub returns-then-row-clause-table_after : goal.returns-then-row-clause-table_after
returns-then-row-clause-table_after g c =
    write_last _ _ _ _ _ _ c.loop-s.invariant.0 c.requires.text_in_bounds _ c.lay_row-row.ensures _ c.write_entry.ensures c.write_entry.auto.table c.if-row.true

pub next_stand-stand-requires : goal.next_stand-stand-requires
next_stand-stand-requires g c =
    next-ready _ _ _ c.loop-s.invariant.1.counted.ready _ c.lay_row-row.ensures

pub loop-s-smaller : goal.loop-s-smaller
loop-s-smaller g c =
    let ready = c.loop-s.invariant.1.counted.ready in
    omega (arith, further _ _ _ ready _ c.lay_row-row.ensures _ c.next_stand-stand.ensures c.if-row.false, stays _ _ _ ready _ c.lay_row-row.ensures _ c.next_stand-stand.ensures)

pub loop-s-preserved : goal.loop-s-preserved
loop-s-preserved g c = (
  write_next _ _ _ _ _ _ c.loop-s.invariant.0 c.requires.text_in_bounds _ c.lay_row-row.ensures _ c.write_entry.ensures c.write_entry.auto.table _
      c.next_stand-stand.ensures c.if-row.false,
  far-next c.loop-s.invariant.1 c.lay_row-row.ensures c.line-k.ensures c.next_stand-stand.ensures c.if-row.false,
)
