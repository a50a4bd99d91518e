-- `parser::letters::skip_plain` meets its contract (rule 2).
use Rattle.std.proofs.Common.{◌-◌, ◌≤◌}
use Rattle.parser.specs.Letters.{Lettered}
use Rattle.parser.proofs.letters.skip_plain.Given as goal

abbrev pub invariant-loop-at : goal.invariant-loop-at
invariant-loop-at l = Lettered l.text l.from l.at × (l.at ≤ l.limit)

abbrev pub decreases-loop-at : goal.decreases-loop-at
decreases-loop-at l = l.limit - l.at
