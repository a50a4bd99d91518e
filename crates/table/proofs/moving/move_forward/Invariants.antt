-- `table::moving::move_forward` meets its contract. The invariant: the lines that are left, moved, make the whole (laying again).
use Rattle.table.specs.Moving.{Forward}
use Rattle.table.proofs.moving.move_forward.Given as goal

abbrev pub invariant-loop-i : goal.invariant-loop-i
invariant-loop-i l = Forward l.initial.table l.from l.to l.count l.shift l.table l.i
