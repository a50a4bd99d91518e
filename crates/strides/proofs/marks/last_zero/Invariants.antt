-- `strides::marks::last_zero` meets its contract (rule 8).
use Rattle.std.proofs.Common.{◌-◌, length}
use Rattle.strides.specs.Marks.{Idle}
use Rattle.strides.proofs.marks.last_zero.Given as goal

abbrev pub invariant-loop-at : goal.invariant-loop-at
invariant-loop-at l = Idle l.text l.from l.at

abbrev pub decreases-loop-at : goal.decreases-loop-at
decreases-loop-at l = length l.text - l.at
