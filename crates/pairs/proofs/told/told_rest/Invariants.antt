-- `pairs::told::told_rest` meets its contract (rule 2).
use Rattle.std.proofs.Common.{◌-◌, length}
use Rattle.pairs.specs.Told.{Goes}
use Rattle.pairs.proofs.told.told_rest.Given as goal

abbrev pub invariant-loop-from : goal.invariant-loop-from
invariant-loop-from l = Goes l.text l.from l.at l.conts l.glues

abbrev pub decreases-loop-from : goal.decreases-loop-from
decreases-loop-from l = length l.text - l.at
