-- `replay::replay` meets its contract.
use Rattle.std.proofs.Common.{◌≤◌, ◌≡◌, length}
use Rattle.replay.specs.Tally.{Sound}
use Rattle.replay.proofs.replay.Given as goal

abbrev pub invariant-loop-lines : goal.invariant-loop-lines
invariant-loop-lines g l = (l.held.at ≤ l.held.end) × (l.held.end ≤ 65536) × (length l.buffer ≡ 65536) × Sound l.lines l.t
