-- `moves::cursor::advanced` meets its contract (rule 4).
use Rattle.meaning.specs.Cursor.{advance}
use Rattle.moves.proofs.cursor.advanced.Goals as goal

pub returns : goal.returns
unfolding advance
returns c =
    c.placed_at.ensures
