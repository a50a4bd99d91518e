-- `pairs::within::skip_upto` meets its contract (rule 2).
use Rattle.std.proofs.Common.{◌-◌, ◌≤◌}
use Rattle.parser.specs.Letters.{GoesOn}
use Rattle.pairs.proofs.within.skip_upto.Given as goal

abbrev pub invariant-loop-chars : goal.invariant-loop-chars
invariant-loop-chars l = GoesOn l.text l.from l.end l.chars l.glues × (l.chars ≤ l.most)

abbrev pub decreases-loop-chars : goal.decreases-loop-chars
decreases-loop-chars l = l.most - l.chars
