-- `utf8::whole::blocks_follow` meets its contract (refusal 4).
use Rattle.std.proofs.Common.{◌+◌, ◌-◌, ◌≤◌}
use Rattle.utf8.specs.Whole.{Follows}
use Rattle.utf8.proofs.whole.blocks_follow.Given as goal

abbrev pub invariant-loop-at : goal.invariant-loop-at
invariant-loop-at l = Follows l.text l.from l.at × (l.at ≤ l.last + 15)

abbrev pub decreases-loop-at : goal.decreases-loop-at
decreases-loop-at l = l.last + 15 - l.at
