-- `files::order::check_lines` meets its contract (refusal 9, refusal 11).
use Rattle.std.proofs.Common.{◌-◌, length}
use Rattle.file_fields.specs.Fields.{Passed}
use Rattle.file_fields.proofs.order.check_lines.Given as goal

abbrev pub invariant-loop-at : goal.invariant-loop-at
invariant-loop-at l = Passed l.file l.at

abbrev pub decreases-loop-at : goal.decreases-loop-at
decreases-loop-at l = length l.file - l.at
