-- `placing::quick::count_words` meets its contract (rule 8, rule 10).
use Rattle.std.proofs.Common.{◌-◌, length}
use Rattle.placing.specs.Quick.{Counting}
use Rattle.placing.proofs.quick.count_words.Given as goal

abbrev pub invariant-loop-pair : goal.invariant-loop-pair
invariant-loop-pair l = Counting l.text l.at l.most l.end l.columns l.spaces

abbrev pub decreases-loop-pair : goal.decreases-loop-pair
decreases-loop-pair l = length l.text - l.end
