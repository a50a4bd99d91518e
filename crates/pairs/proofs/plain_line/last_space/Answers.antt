use Rattle.std.proofs.Common.{arith}
use Rattle.pairs.specs.StretchLaws.{space-here}
use Rattle.pairs.proofs.plain_line.last_space.Goals as goal

pub returns-then-text-at-eq32 : goal.returns-then-text-at-eq32
returns-then-text-at-eq32 c =
    record { low = c.loop-at.invariant.1; high = c.loop-at.invariant.2; found = λ _. space-here _ _ (omega arith) c.if-text-at-eq32.true; none = c.loop-at.invariant.0 }
