-- `month::stream::count_stream` meets its contract.
use Rattle.std.proofs.Common.{◌<◌, ◌≡◌, length}
use Rattle.meaning.specs.Month.{most_clues}
use Rattle.clues.specs.Counting.{Counts}
use Rattle.month.specs.Pending.{held_in}
use Rattle.month.proofs.stream.count_stream.Given as goal

abbrev pub invariant-loop : goal.invariant-loop
invariant-loop g l = Counts l.s l.widths l.sums l.step.clues × (l.step.clues < most_clues) × (held_in l.step < 65536) × (length l.buffer ≡ 65536)
