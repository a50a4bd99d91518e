-- `table::plain::skip_blocks` meets its contract (refusal 5).
use Rattle.std.proofs.Common.{◌+◌, ◌-◌, ◌≤◌}
use Rattle.look.specs.Skipping.{block_numbers, PlainLines}
use Rattle.look.proofs.plain.skip_blocks.Given as goal

abbrev pub invariant-loop-at : goal.invariant-loop-at
invariant-loop-at l = PlainLines l.table l.last l.most l.from l.at × (l.stop + block_numbers ≤ l.last)

abbrev pub decreases-loop-at : goal.decreases-loop-at
decreases-loop-at l = l.last - l.at
