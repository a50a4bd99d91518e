-- `parser::letters::skip_wide` meets its contract (rule 2).
use Rattle.std.proofs.Common.{◌-◌, ◌≤◌, length}
use Rattle.parser.specs.Letters.{GoesOn}
use Rattle.parser.proofs.letters.skip_wide.Given as goal

abbrev pub invariant-loop-end : goal.invariant-loop-end
invariant-loop-end l = GoesOn l.text l.from l.end l.chars 0 × (l.end ≤ length l.text) × (l.chars ≤ l.end)

abbrev pub decreases-loop-end : goal.decreases-loop-end
decreases-loop-end l = length l.text - l.end
