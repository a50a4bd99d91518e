-- `table::search::affected_from` meets its contract (laying again).
use Rattle.std.proofs.Common.{◌+◌, ◌≡◌, length}
use Rattle.meaning.specs.Edit.{unaffected}
use Rattle.table.specs.LinesFrom.{lines_from}
use Rattle.table.proofs.search.affected_from.Given as goal

abbrev pub invariant-loop-k : goal.invariant-loop-k
invariant-loop-k l = l.j + length (unaffected l.a.0 (lines_from l.table l.lines l.j)) ≡ l.k + length (unaffected l.a.0 (lines_from l.table l.lines l.k))
