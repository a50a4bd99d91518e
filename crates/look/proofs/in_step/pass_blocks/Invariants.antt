-- `table::in_step::pass_blocks` meets its contract (refusal 5).
use Rattle.std.proofs.Common.{◌-◌}
use Rattle.look.specs.Skipping.{StepLines}
use Rattle.look.proofs.in_step.pass_blocks.Given as goal

abbrev pub invariant-loop-at : goal.invariant-loop-at
invariant-loop-at l = StepLines l.table l.last l.lag l.most l.from l.at

abbrev pub decreases-loop-at : goal.decreases-loop-at
decreases-loop-at l = l.last - l.at
