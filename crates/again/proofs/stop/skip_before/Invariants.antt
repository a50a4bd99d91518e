-- `again::stop::skip_before` meets its contract (laying again).
use Rattle.std.proofs.Common.{◌+◌, ◌-◌, ◌≤◌, ◌≡◌}
use Rattle.table.specs.LinesFrom.{lines_from}
use Rattle.edits.specs.Pointer.{passing}
use Rattle.again.proofs.stop.skip_before.Given as goal

abbrev pub invariant-loop-i : goal.invariant-loop-i
invariant-loop-i l = l.j + passing l.edit l.start.0 (lines_from l.table l.lines l.j) ≡ l.i + passing l.edit l.start.0 (lines_from l.table l.lines l.i)
