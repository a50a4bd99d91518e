use Rattle.std.proofs.Common.{arith}
use Rattle.table.proofs.MoveTurns.{forward-start, forward-end, forward_join, forward-one, forward-next}
use Rattle.table.proofs.moving.move_still.Goals as goal

pub loop-i-init : goal.loop-i-init
loop-i-init c =
    forward-start _ _ _ _ _ c.requires

pub returns-then-count-i : goal.returns-then-count-i
returns-then-count-i c =
    forward-end _ _ _ _ _ _ _ (forward_join _ _ _ _ _ _ _ c.loop-i.invariant _ _ c.move_fours-i.ensures) c.if-count-i.true

pub move_here-requires : goal.move_here-requires
move_here-requires c =
    forward-one _ _ _ _ _ _ _ (forward_join _ _ _ _ _ _ _ c.loop-i.invariant _ _ c.move_fours-i.ensures) c.if-count-i.false

pub loop-i-preserved : goal.loop-i-preserved
loop-i-preserved c =
    forward-next _ _ _ _ _ _ _ (forward_join _ _ _ _ _ _ _ c.loop-i.invariant _ _ c.move_fours-i.ensures) c.if-count-i.false _ (omega arith) c.move_here.ensures
