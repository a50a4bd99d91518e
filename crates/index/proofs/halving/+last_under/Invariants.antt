-- `index::halving::last_under` meets its contract: a recursion, whose measure is how many lines are left.
use Rattle.std.proofs.Common.{◌-◌}
use Rattle.index.proofs.halving.+last_under.Given as goal

abbrev pub decreases-last_under : goal.decreases-last_under
decreases-last_under l = l.high - l.low
