-- `placing::quick::counted_at` meets its contract (rule 8, rule 10).
use Rattle.std.proofs.Common.{refl}
use Rattle.placing.specs.Quick.{counted_at}
use Rattle.placing.proofs.quick.counted_at.Goals as goal

pub returns : goal.returns
unfolding counted_at
returns c =
    refl
