-- `heights::vertical::shown_at` meets its contract (rule 11).
use Rattle.std.proofs.Common.{to_z-of_z}
use Rattle.heights.specs.Heights.{shown_at}
use Rattle.heights.proofs.vertical.shown_at.Goals as goal

-- A number that is passed on is read again as it is.
pub returns : goal.returns
unfolding shown_at
returns c =
    rw (c.shows.ensures, to_z-of_z c.ranges.y)
