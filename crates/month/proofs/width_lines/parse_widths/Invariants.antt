-- `month::width_lines::parse_widths` meets its contract. The invariant: the lines so far are widths, and what is left gives what the whole gives (refusal 13).
use Rattle.std.proofs.Common.{◌+◌, ◌-◌, length}
use Rattle.month.specs.WidthTurns.{Reading}
use Rattle.month.proofs.width_lines.parse_widths.Given as goal

abbrev pub invariant-loop-at : goal.invariant-loop-at
invariant-loop-at l = Reading l.file l.initial.widths l.at l.k l.widths

abbrev pub decreases-loop-at : goal.decreases-loop-at
decreases-loop-at l = length l.file + 1 - l.at
