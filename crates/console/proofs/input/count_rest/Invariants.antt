-- `console::input::count_rest` meets its contract.
use Rattle.std.proofs.Common.{◌≤◌, ◌-◌, ◌+◌, ◌^◌}
use Rattle.console.proofs.input.count_rest.Given as goal

abbrev pub invariant-loop-bytes : goal.invariant-loop-bytes
invariant-loop-bytes g l = l.bytes ≤ 2 ^ 62 + 2 ^ 16

abbrev pub decreases-loop-bytes : goal.decreases-loop-bytes
decreases-loop-bytes g l = 2 ^ 62 - l.bytes
