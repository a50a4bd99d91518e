-- `heights::vertical::shows` meets its contract (rule 11).
use Rattle.heights.proofs.Upright.{shows-is}
use Rattle.heights.proofs.vertical.shows.Goals as goal

pub returns : goal.returns
returns c =
    shows-is c.args.s c.requires c.args.y c.ranges.y
