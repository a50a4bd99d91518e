-- `pairs::plain_line::last_space` meets its contract (rule 2).
use Rattle.std.proofs.Common.{◌≤◌}
use Rattle.pairs.specs.Stretches.{Unspaced}
use Rattle.pairs.proofs.plain_line.last_space.Given as goal

abbrev pub invariant-loop-at : goal.invariant-loop-at
invariant-loop-at l = Unspaced l.text l.at l.limit × (l.from ≤ l.at) × (l.at ≤ l.limit)

abbrev pub decreases-loop-at : goal.decreases-loop-at
decreases-loop-at l = l.at
