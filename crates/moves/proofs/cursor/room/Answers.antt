-- `moves::cursor::room` meets its contract (rule 4).
use Rattle.std.proofs.Common.{refl}
use Rattle.meaning.specs.Cursor.{room_of}
use Rattle.moves.proofs.cursor.room.Goals as goal

pub returns : goal.returns
unfolding room_of
returns c =
    refl
