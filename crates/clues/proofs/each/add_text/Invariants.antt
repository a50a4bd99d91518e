-- `clues::each::add_text` meets its contract. The invariant: the first widths are done, and what the others are to get makes the whole.
use Rattle.clues.specs.Adding.{Adding}
use Rattle.clues.proofs.each.add_text.Given as goal

abbrev pub invariant-loop-k : goal.invariant-loop-k
invariant-loop-k l = Adding l.s l.text l.checked l.widths l.initial.sums l.sums l.k
