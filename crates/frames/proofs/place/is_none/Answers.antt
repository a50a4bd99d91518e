-- `frames::place::is_none` meets its contract (refusal 5).
use Rattle.std.proofs.Common.{refl}
use Rattle.meaning.specs.Frames.{is_none}
use Rattle.frames.proofs.place.is_none.Goals as goal

pub returns : goal.returns
unfolding is_none
returns c =
    refl
