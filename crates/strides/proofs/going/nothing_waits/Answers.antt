-- `strides::going::nothing_waits` meets its contract (rule 8).
use Rattle.std.proofs.Common.{refl}
use Rattle.strides.specs.Strides.{waiting_at}
use Rattle.strides.proofs.going.nothing_waits.Goals as goal

pub returns : goal.returns
unfolding waiting_at
returns c =
    refl
