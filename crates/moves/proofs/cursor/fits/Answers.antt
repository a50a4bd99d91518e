-- `moves::cursor::fits` meets its contract (rule 4).
use Rattle.std.proofs.Common.{leb, ap}
use Rattle.meaning.specs.Cursor.{fits_in}
use Rattle.moves.proofs.cursor.fits.Goals as goal

pub returns : goal.returns
unfolding fits_in
returns c =
    ap (leb c.args.w) c.room.ensures
