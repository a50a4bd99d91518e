-- `choosing::taken::take_lines` meets its contract. The invariant: so many lines are passed, and the others are those from the stand on
-- (rule 10).
use Rattle.choosing.specs.Taking.{Passed}
use Rattle.choosing.proofs.taken.take_lines.Given as goal

abbrev pub invariant-loop-line : goal.invariant-loop-line
invariant-loop-line l = Passed l.s l.text l.line l.stand
