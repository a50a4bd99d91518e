-- `moves::place::start_place` meets its contract (rule 8).
use Rattle.std.proofs.Common.{refl}
use Rattle.meaning.specs.Line.{start_place}
use Rattle.moves.proofs.place.start_place.Goals as goal

pub returns : goal.returns
unfolding start_place
returns c =
    refl
