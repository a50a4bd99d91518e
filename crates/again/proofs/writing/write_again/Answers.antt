use Rattle.std.proofs.Common.{arith}
use Rattle.rows.specs.Standing.{next-ready}
use Rattle.again.specs.Writing.{write_start, write_end, line-movable, write_next}
use Rattle.again.proofs.writing.write_again.Goals as goal

pub loop-n-init : goal.loop-n-init
loop-n-init c =
    write_start _ _ _ _ _ _ _ c.requires

pub lay_row-row-requires : goal.lay_row-row-requires
lay_row-row-requires c =
    c.loop-n.invariant.ready

pub entry_behind-whole-requires : goal.entry_behind-whole-requires
entry_behind-whole-requires c =
    (c.requires.low, line-movable _ _ _ _ _ _ _ _ _ _ c.loop-n.invariant _ c.lay_row-row.ensures)

pub write_entry-requires : goal.write_entry-requires
write_entry-requires c =
    omega (arith, c.loop-n-test.true, c.requires.room, c.loop-n.invariant.same)

pub next_stand-stand-requires : goal.next_stand-stand-requires
next_stand-stand-requires c =
    next-ready _ _ _ c.loop-n.invariant.ready _ c.lay_row-row.ensures

pub loop-n-preserved : goal.loop-n-preserved
loop-n-preserved c =
    write_next _ _ _ _ _ _ _ _ _ _ c.loop-n.invariant _ c.lay_row-row.ensures c.loop-n-test.true
    (omega (arith, c.loop-n-test.true, c.requires.room, c.loop-n.invariant.same)) _ c.entry_behind-whole.ensures _ c.write_entry.ensures
    c.write_entry.auto.table _ c.next_stand-stand.ensures

pub shape_of-table : goal.shape_of-table
shape_of-table c =
    c.loop-n.invariant.same

pub returns : goal.returns
returns c =
    write_end _ _ _ _ _ _ _ _ _ _ c.loop-n.invariant c.loop-n-test.false
