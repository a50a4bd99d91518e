-- `clues::tally::laid_figures` meets its contract. The invariant: what is counted, and what the lines that are left add, are the text's figures.
-- Rule 10.
use Rattle.std.proofs.Common.{◌-◌, length}
use Rattle.clues.specs.Tallying.{Tallied}
use Rattle.clues.proofs.tally.laid_figures.Given as goal

abbrev pub invariant-loop-s : goal.invariant-loop-s
invariant-loop-s l = Tallied l.s l.text l.tally l.stand

abbrev pub decreases-loop-s : goal.decreases-loop-s
decreases-loop-s l = length l.text - l.stand.at.0
