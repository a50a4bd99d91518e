-- `pairs::word_end::word_end` meets its contract (rule 2).
use Rattle.std.proofs.Common.{◌-◌, length}
use Rattle.pairs.specs.NextPlainLaws.{Lasting}
use Rattle.pairs.proofs.word_end.word_end.Given as goal

abbrev pub invariant-loop-at : goal.invariant-loop-at
invariant-loop-at l = Lasting l.text l.from l.at

abbrev pub decreases-loop-at : goal.decreases-loop-at
decreases-loop-at l = length l.text - l.at
