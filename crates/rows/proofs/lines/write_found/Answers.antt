use Rattle.std.proofs.Common.{◌≤◌, arith, ap}
use Rattle.rows.specs.Standing.{next-ready, further, stays}
use Rattle.rows.specs.Turns.{Wrote, write_start, room-left, write_last, write_next}
use Rattle.rows.specs.DrawnLines.{SoFar, gone_some, far-start, far-to-draw, far-next, far-last, far-can, far-both, far-same, far-all, far-written}
use Rattle.stands.specs.declared.stand.Stand.{Stand}
use Rattle.rows.proofs.lines.write_found.Goals.{then-stand-eq0+in-Some, else-stand-eq0}
use Rattle.rows.proofs.lines.write_found.Goals as goal

pub loop-stand-init : goal.loop-stand-init
loop-stand-init g c =
    (write_start _ _ _ _ c.requires.text_ready c.at_start-stand.ensures, far-start (g.met.D.Drawer.alike _ _) (g.met.D.Drawer.few _ _) c.requires.text_ready _ c.at_start-stand.ensures)

pub write_on-far-requires : goal.write_on-far-requires
write_on-far-requires g c =
    record { can = far-can c.loop-stand.invariant.1 c.loop-stand.invariant.0 c.requires.text_in_bounds; chars_value = c.if-stand-eq0.true }

-- ---- after the lines that were found
-- They were all.
pub returns-in_default-clause-all : goal.returns-in_default-clause-all
returns-in_default-clause-all g c =
    far-all c.loop-stand.invariant.1 c.loop-stand.invariant.0 c.write_on-far.ensures c.in_default.is

pub returns-in_default-clause-table_after : goal.returns-in_default-clause-table_after
returns-in_default-clause-table_after g c =
    far-written c.loop-stand.invariant.1 c.loop-stand.invariant.0 c.write_on-far.ensures c.in_default.is

-- ---- the line by the step
pub lay_row-row-requires : goal.lay_row-row-requires
lay_row-row-requires g c =
    (let far_here : Wrote c.args.r.settings c.args.text.now c.args.table.now c.if-stand-eq0.table c.if-stand-eq0.n c.if-stand-eq0.stand × SoFar (g.D.Drawer.to_draw c.args.r.settings c.args.text.now) c.args.r.settings c.args.text.now c.if-stand-eq0.n c.args.events.now c.if-stand-eq0.events c.if-stand-eq0.k c.if-stand-eq0.stand = elim c.if-stand-eq0.branch [ then-stand-eq0+in-Some w ↦ far-same w.table-is w.n-is w.events-is w.k-is w.stand-is (far-both c.loop-stand.invariant.1 c.loop-stand.invariant.0 (gone_some w.write_on-far.ensures _ w.in-Some.is)) | else-stand-eq0 w ↦ far-same w.table-is w.n-is w.events-is w.k-is w.stand-is c.loop-stand.invariant ] in far_here).0.counted.ready

pub write_entry-requires : goal.write_entry-requires
write_entry-requires g c =
    room-left _ _ _ _ _ _ (let far_here : Wrote c.args.r.settings c.args.text.now c.args.table.now c.if-stand-eq0.table c.if-stand-eq0.n c.if-stand-eq0.stand × SoFar (g.D.Drawer.to_draw c.args.r.settings c.args.text.now) c.args.r.settings c.args.text.now c.if-stand-eq0.n c.args.events.now c.if-stand-eq0.events c.if-stand-eq0.k c.if-stand-eq0.stand = elim c.if-stand-eq0.branch [ then-stand-eq0+in-Some w ↦ far-same w.table-is w.n-is w.events-is w.k-is w.stand-is (far-both c.loop-stand.invariant.1 c.loop-stand.invariant.0 (gone_some w.write_on-far.ensures _ w.in-Some.is)) | else-stand-eq0 w ↦ far-same w.table-is w.n-is w.events-is w.k-is w.stand-is c.loop-stand.invariant ] in far_here).0 c.requires.text_in_bounds

pub line-k-requires : goal.line-k-requires
line-k-requires g c =
    far-to-draw (let far_here : Wrote c.args.r.settings c.args.text.now c.args.table.now c.if-stand-eq0.table c.if-stand-eq0.n c.if-stand-eq0.stand × SoFar (g.D.Drawer.to_draw c.args.r.settings c.args.text.now) c.args.r.settings c.args.text.now c.if-stand-eq0.n c.args.events.now c.if-stand-eq0.events c.if-stand-eq0.k c.if-stand-eq0.stand = elim c.if-stand-eq0.branch [ then-stand-eq0+in-Some w ↦ far-same w.table-is w.n-is w.events-is w.k-is w.stand-is (far-both c.loop-stand.invariant.1 c.loop-stand.invariant.0 (gone_some w.write_on-far.ensures _ w.in-Some.is)) | else-stand-eq0 w ↦ far-same w.table-is w.n-is w.events-is w.k-is w.stand-is c.loop-stand.invariant ] in far_here).1 c.lay_row-row.ensures

pub returns-then-row-clause-all : goal.returns-then-row-clause-all
returns-then-row-clause-all g c =
    far-last (let far_here : Wrote c.args.r.settings c.args.text.now c.args.table.now c.if-stand-eq0.table c.if-stand-eq0.n c.if-stand-eq0.stand × SoFar (g.D.Drawer.to_draw c.args.r.settings c.args.text.now) c.args.r.settings c.args.text.now c.if-stand-eq0.n c.args.events.now c.if-stand-eq0.events c.if-stand-eq0.k c.if-stand-eq0.stand = elim c.if-stand-eq0.branch [ then-stand-eq0+in-Some w ↦ far-same w.table-is w.n-is w.events-is w.k-is w.stand-is (far-both c.loop-stand.invariant.1 c.loop-stand.invariant.0 (gone_some w.write_on-far.ensures _ w.in-Some.is)) | else-stand-eq0 w ↦ far-same w.table-is w.n-is w.events-is w.k-is w.stand-is c.loop-stand.invariant ] in far_here).1 c.lay_row-row.ensures c.line-k.ensures c.if-row.true

pub returns-then-row-clause-table_after : goal.returns-then-row-clause-table_after
returns-then-row-clause-table_after g c =
    write_last _ _ _ _ _ _ (let far_here : Wrote c.args.r.settings c.args.text.now c.args.table.now c.if-stand-eq0.table c.if-stand-eq0.n c.if-stand-eq0.stand × SoFar (g.D.Drawer.to_draw c.args.r.settings c.args.text.now) c.args.r.settings c.args.text.now c.if-stand-eq0.n c.args.events.now c.if-stand-eq0.events c.if-stand-eq0.k c.if-stand-eq0.stand = elim c.if-stand-eq0.branch [ then-stand-eq0+in-Some w ↦ far-same w.table-is w.n-is w.events-is w.k-is w.stand-is (far-both c.loop-stand.invariant.1 c.loop-stand.invariant.0 (gone_some w.write_on-far.ensures _ w.in-Some.is)) | else-stand-eq0 w ↦ far-same w.table-is w.n-is w.events-is w.k-is w.stand-is c.loop-stand.invariant ] in far_here).0 c.requires.text_in_bounds _ c.lay_row-row.ensures _ c.write_entry.ensures c.write_entry.auto.table c.if-row.true

pub next_stand-stand-requires : goal.next_stand-stand-requires
next_stand-stand-requires g c =
    next-ready _ _ _ (let far_here : Wrote c.args.r.settings c.args.text.now c.args.table.now c.if-stand-eq0.table c.if-stand-eq0.n c.if-stand-eq0.stand × SoFar (g.D.Drawer.to_draw c.args.r.settings c.args.text.now) c.args.r.settings c.args.text.now c.if-stand-eq0.n c.args.events.now c.if-stand-eq0.events c.if-stand-eq0.k c.if-stand-eq0.stand = elim c.if-stand-eq0.branch [ then-stand-eq0+in-Some w ↦ far-same w.table-is w.n-is w.events-is w.k-is w.stand-is (far-both c.loop-stand.invariant.1 c.loop-stand.invariant.0 (gone_some w.write_on-far.ensures _ w.in-Some.is)) | else-stand-eq0 w ↦ far-same w.table-is w.n-is w.events-is w.k-is w.stand-is c.loop-stand.invariant ] in far_here).0.counted.ready _ c.lay_row-row.ensures

pub loop-stand-smaller : goal.loop-stand-smaller
loop-stand-smaller g c =
    let ready = (let far_here : Wrote c.args.r.settings c.args.text.now c.args.table.now c.if-stand-eq0.table c.if-stand-eq0.n c.if-stand-eq0.stand × SoFar (g.D.Drawer.to_draw c.args.r.settings c.args.text.now) c.args.r.settings c.args.text.now c.if-stand-eq0.n c.args.events.now c.if-stand-eq0.events c.if-stand-eq0.k c.if-stand-eq0.stand = elim c.if-stand-eq0.branch [ then-stand-eq0+in-Some w ↦ far-same w.table-is w.n-is w.events-is w.k-is w.stand-is (far-both c.loop-stand.invariant.1 c.loop-stand.invariant.0 (gone_some w.write_on-far.ensures _ w.in-Some.is)) | else-stand-eq0 w ↦ far-same w.table-is w.n-is w.events-is w.k-is w.stand-is c.loop-stand.invariant ] in far_here).0.counted.ready in
    omega (
      arith,
      (let forward_here : c.loop-stand.stand.at.0 ≤ c.if-stand-eq0.stand.at.0 = elim c.if-stand-eq0.branch [ then-stand-eq0+in-Some w ↦ omega (arith, (gone_some w.write_on-far.ensures _ w.in-Some.is).went.forward, ap (λ (p : Stand). p.at.0) w.stand-is) | else-stand-eq0 w ↦ omega (arith, ap (λ (p : Stand). p.at.0) w.stand-is) ] in forward_here),
      further _ _ _ ready _ c.lay_row-row.ensures _ c.next_stand-stand.ensures c.if-row.false,
      stays _ _ _ ready _ c.lay_row-row.ensures _ c.next_stand-stand.ensures,
    )

pub loop-stand-preserved : goal.loop-stand-preserved
loop-stand-preserved g c = (
  write_next _ _ _ _ _ _ (let far_here : Wrote c.args.r.settings c.args.text.now c.args.table.now c.if-stand-eq0.table c.if-stand-eq0.n c.if-stand-eq0.stand × SoFar (g.D.Drawer.to_draw c.args.r.settings c.args.text.now) c.args.r.settings c.args.text.now c.if-stand-eq0.n c.args.events.now c.if-stand-eq0.events c.if-stand-eq0.k c.if-stand-eq0.stand = elim c.if-stand-eq0.branch [ then-stand-eq0+in-Some w ↦ far-same w.table-is w.n-is w.events-is w.k-is w.stand-is (far-both c.loop-stand.invariant.1 c.loop-stand.invariant.0 (gone_some w.write_on-far.ensures _ w.in-Some.is)) | else-stand-eq0 w ↦ far-same w.table-is w.n-is w.events-is w.k-is w.stand-is c.loop-stand.invariant ] in far_here).0 c.requires.text_in_bounds _ c.lay_row-row.ensures _ c.write_entry.ensures c.write_entry.auto.table _ c.next_stand-stand.ensures c.if-row.false,
  far-next (let far_here : Wrote c.args.r.settings c.args.text.now c.args.table.now c.if-stand-eq0.table c.if-stand-eq0.n c.if-stand-eq0.stand × SoFar (g.D.Drawer.to_draw c.args.r.settings c.args.text.now) c.args.r.settings c.args.text.now c.if-stand-eq0.n c.args.events.now c.if-stand-eq0.events c.if-stand-eq0.k c.if-stand-eq0.stand = elim c.if-stand-eq0.branch [ then-stand-eq0+in-Some w ↦ far-same w.table-is w.n-is w.events-is w.k-is w.stand-is (far-both c.loop-stand.invariant.1 c.loop-stand.invariant.0 (gone_some w.write_on-far.ensures _ w.in-Some.is)) | else-stand-eq0 w ↦ far-same w.table-is w.n-is w.events-is w.k-is w.stand-is c.loop-stand.invariant ] in far_here).1 c.lay_row-row.ensures c.line-k.ensures c.next_stand-stand.ensures c.if-row.false,
)
