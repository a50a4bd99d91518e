-- `heights::spacing::added_before` meets its contract (rule 11).
use Rattle.std.proofs.Common.{◌+◌, ◌-◌, ◌≡◌}
use Rattle.meaning.specs.Height.{added_before}
use Rattle.meaning.specs.Table.{entries_in}
use Rattle.table.specs.LinesFrom.{lines_from}
use Rattle.heights.proofs.spacing.added_before.Given as goal

abbrev pub invariant-loop-i : goal.invariant-loop-i
invariant-loop-i l = added_before l.s l.k (entries_in l.k l.table) ≡ l.sum + added_before l.s (l.k - l.i) (lines_from l.table l.k l.i)
