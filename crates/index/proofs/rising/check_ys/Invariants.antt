-- `index::rising::check_ys` meets its contract (refusal 10).
use Rattle.std.proofs.Common.{◌≡◌}
use Rattle.meaning.specs.YIndex.{check_ys}
use Rattle.index.proofs.InOrder.{checked_from}
use Rattle.index.proofs.rising.check_ys.Given as goal

abbrev pub invariant-loop-k : goal.invariant-loop-k
invariant-loop-k l = checked_from l.index l.k ≡ check_ys l.index
