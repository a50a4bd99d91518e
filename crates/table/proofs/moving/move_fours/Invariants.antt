-- `table::moving::move_fours` meets its contract (laying again).
use Rattle.std.proofs.Common.{◌-◌}
use Rattle.table.specs.Moving.{Forward}
use Rattle.table.proofs.moving.move_fours.Given as goal

abbrev pub invariant-loop-i : goal.invariant-loop-i
invariant-loop-i l = Forward l.initial.table l.from l.from l.count l.shift l.table l.i

abbrev pub decreases-loop-i : goal.decreases-loop-i
decreases-loop-i l = l.count - l.i
