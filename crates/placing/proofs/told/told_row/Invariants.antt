-- `placing::told::told_row` meets its contract. The invariant: words stand up to where it looks, of which the last may go on (rule 8, rule 10).
use Rattle.std.proofs.Common.{◌-◌, length}
use Rattle.placing.proofs.ToldLaws.{Walk}
use Rattle.placing.proofs.told.told_row.Given as goal

abbrev pub invariant-loop-chars : goal.invariant-loop-chars
invariant-loop-chars l = Walk l.text l.at l.most l.to l.base l.next l.columns

abbrev pub decreases-loop-chars : goal.decreases-loop-chars
decreases-loop-chars l = length l.text - l.to
