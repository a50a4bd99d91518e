-- `moves::cursor::has_moved` meets its contract (rule 4).
use Rattle.std.proofs.Common.{refl}
use Rattle.meaning.specs.Cursor.{has_moved}
use Rattle.moves.proofs.cursor.has_moved.Goals as goal

pub returns : goal.returns
unfolding has_moved
returns c =
    refl
