-- `replay::same::same_lines` meets its contract. The invariant: all lines are the same exactly if those that are left are.
use Rattle.std.proofs.Common.{◌≡◌}
use Rattle.replay.specs.Same.{equal, eights}
use Rattle.replay.proofs.SameLaws.{lines_left}
use Rattle.replay.proofs.same.same_lines.Given as goal

abbrev pub invariant-loop-k : goal.invariant-loop-k
invariant-loop-k l = equal (eights l.n l.table) l.recorded ≡ lines_left l.table l.recorded l.n l.k
