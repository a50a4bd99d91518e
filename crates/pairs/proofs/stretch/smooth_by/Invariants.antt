-- `pairs::stretch::smooth_by` meets its contract (rule 2).
use Rattle.std.proofs.Common.{◌-◌, ◌≤◌}
use Rattle.pairs.specs.Stretches.{Smooth}
use Rattle.pairs.proofs.stretch.smooth_by.Given as goal

abbrev pub invariant-loop-from : goal.invariant-loop-from
invariant-loop-from l = Smooth l.text l.from l.at × (l.from ≤ l.at) × (l.at ≤ l.last)

abbrev pub decreases-loop-from : goal.decreases-loop-from
decreases-loop-from l = l.last - l.at
