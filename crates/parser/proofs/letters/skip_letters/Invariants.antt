-- `parser::letters::skip_letters` meets its contract (rule 2).
use Rattle.std.proofs.Common.{◌-◌, ◌≤◌, length}
use Rattle.parser.specs.Letters.{GoesOn}
use Rattle.parser.proofs.letters.skip_letters.Given as goal

abbrev pub invariant-loop-len : goal.invariant-loop-len
invariant-loop-len l = GoesOn l.text l.from l.at l.skipped 0 × (l.at ≤ length l.text)

abbrev pub decreases-loop-len : goal.decreases-loop-len
decreases-loop-len l = length l.text - l.at
