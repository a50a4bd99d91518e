-- `table::moving::move_back` meets its contract. The invariant: the lines that are left, moved, make the whole (laying again).
use Rattle.table.proofs.MoveTurns.{Back}
use Rattle.table.proofs.moving.move_back.Given as goal

abbrev pub invariant-loop-i : goal.invariant-loop-i
invariant-loop-i l = Back l.initial.table l.from l.to l.count l.shift l.table l.i
