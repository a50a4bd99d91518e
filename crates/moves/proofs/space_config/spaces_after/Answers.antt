-- `moves::space_config::spaces_after` meets its contract (rule 5).
use Rattle.std.proofs.Common.{refl}
use Rattle.meaning.specs.SpaceConfig.{spaces_after}
use Rattle.moves.proofs.space_config.spaces_after.Goals as goal

pub returns : goal.returns
unfolding spaces_after
returns c =
    rw c.saturating_sub.ensures refl
