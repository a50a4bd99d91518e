-- `strides::going::stands_at` meets its contract (rule 8).
use Rattle.std.proofs.Common.{refl}
use Rattle.strides.specs.Strides.{going_at}
use Rattle.strides.proofs.going.stands_at.Goals as goal

pub returns : goal.returns
unfolding going_at
returns c =
    refl
