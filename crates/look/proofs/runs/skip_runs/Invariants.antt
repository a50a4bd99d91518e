-- `table::runs::skip_runs` meets its contract (refusal 5).
use Rattle.std.proofs.Common.{◌-◌}
use Rattle.look.specs.Skipping.{PlainLines}
use Rattle.look.proofs.runs.skip_runs.Given as goal

abbrev pub invariant-loop-at : goal.invariant-loop-at
invariant-loop-at l = PlainLines l.table l.last l.most l.from l.at

abbrev pub decreases-loop-at : goal.decreases-loop-at
decreases-loop-at l = l.last - l.at
