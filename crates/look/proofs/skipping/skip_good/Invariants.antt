-- `table::skipping::skip_good` meets its contract (refusal 5).
use Rattle.std.proofs.Common.{◌-◌}
use Rattle.look.proofs.SkipTurns.{SkimmedTo}
use Rattle.look.proofs.skipping.skip_good.Given as goal

abbrev pub invariant-loop-at : goal.invariant-loop-at
invariant-loop-at l = SkimmedTo l.table l.lines l.bytes l.most l.j l.at

abbrev pub decreases-loop-at : goal.decreases-loop-at
decreases-loop-at l = l.last - l.at
