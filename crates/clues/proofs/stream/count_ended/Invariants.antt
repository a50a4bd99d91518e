-- `clues::stream::count_ended` meets its contract. The invariant: what is left to count gives what all of it gave.
use Rattle.std.proofs.Common.{take}
use Rattle.clues.specs.Counting.{Passing}
use Rattle.clues.proofs.stream.count_ended.Given as goal

abbrev pub invariant-loop-n : goal.invariant-loop-n
invariant-loop-n l = Passing l.s l.widths (take l.end l.buffer) l.from l.clues l.initial.sums l.at l.n l.sums
