use Rattle.std.proofs.Common.{arith}
use Rattle.table.proofs.MoveTurns.{back_start, back_end, back_one, back-next}
use Rattle.table.proofs.moving.move_back.Goals as goal

pub loop-i-init : goal.loop-i-init
loop-i-init c =
    back_start _ _ _ _ _ c.requires.0

pub overflow_add-from : goal.overflow_add-from
overflow_add-from c =
    record { fits = omega (arith, c.loop-i.invariant.left.from-room) }

pub overflow_add-to : goal.overflow_add-to
overflow_add-to c =
    record { fits = omega (arith, c.loop-i.invariant.left.to_room) }

pub move_line-requires : goal.move_line-requires
move_line-requires c =
    back_one _ _ _ _ _ _ _ c.loop-i.invariant c.loop-i-test.true

pub loop-i-preserved : goal.loop-i-preserved
loop-i-preserved c =
    back-next _ _ _ _ _ _ _ c.loop-i.invariant c.loop-i-test.true _ c.requires.1 c.move_line.ensures

pub shape_of-table : goal.shape_of-table
shape_of-table c =
    c.loop-i.invariant.size

pub returns : goal.returns
returns c =
    back_end _ _ _ _ _ _ _ c.loop-i.invariant c.loop-i-test.false
