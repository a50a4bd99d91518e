-- `files::lines::check_each` meets its contract (refusal 3, refusal 5).
use Rattle.std.proofs.Common.{◌≡◌, drop}
use Rattle.meaning.specs.LayoutFile.{lines_at}
use Rattle.meaning.specs.ReadFile.{lines_in}
use Rattle.meaning.specs.WellFormed.{nothing, check_lines}
use Rattle.look.specs.OneLine.{before_of}
use Rattle.files.specs.Reading.{rows_from}
use Rattle.files.proofs.lines.check_each.Given as goal

abbrev pub invariant-loop-k : goal.invariant-loop-k
invariant-loop-k l = check_lines l.bytes.0 l.k (before_of l.prior) (rows_from l.file l.lines l.k) ≡ check_lines l.bytes.0 0 nothing (lines_in l.lines (drop lines_at l.file))
