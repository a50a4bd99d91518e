use Rattle.std.proofs.Common.{arith}
use Rattle.rows.specs.Standing.{next-ready, further, stays}
use Rattle.rows.specs.Turns.{count_low}
use Rattle.rows.specs.DrawnLines.{far-start, far-to-draw, far-next, far-last}
use Rattle.rows.proofs.lines.pass_lines.Goals as goal

pub loop-s-init : goal.loop-s-init
loop-s-init g c =
    far-start (g.met.D.Drawer.alike _ _) (g.met.D.Drawer.few _ _) c.requires _ c.at_start-stand.ensures

pub overflow_add-n : goal.overflow_add-n
overflow_add-n g c =
    omega (arith, count_low _ _ _ _ c.loop-s.invariant.counted)

pub line-k-requires : goal.line-k-requires
line-k-requires g c =
    far-to-draw c.loop-s.invariant c.lay_row-row.ensures

pub returns-then-row : goal.returns-then-row
returns-then-row g c =
    far-last c.loop-s.invariant c.lay_row-row.ensures c.line-k.ensures c.if-row.true

pub next_stand-stand-requires : goal.next_stand-stand-requires
next_stand-stand-requires g c =
    next-ready _ _ _ c.loop-s.invariant.counted.ready _ c.lay_row-row.ensures

pub loop-s-smaller : goal.loop-s-smaller
loop-s-smaller g c =
    let ready = c.loop-s.invariant.counted.ready in
    omega (arith, further _ _ _ ready _ c.lay_row-row.ensures _ c.next_stand-stand.ensures c.if-row.false, stays _ _ _ ready _ c.lay_row-row.ensures _ c.next_stand-stand.ensures)

pub loop-s-preserved : goal.loop-s-preserved
loop-s-preserved g c =
    far-next c.loop-s.invariant c.lay_row-row.ensures c.line-k.ensures c.next_stand-stand.ensures c.if-row.false
