-- `table::moving::rests_nowhere` meets its contract (laying again).
use Rattle.table.proofs.MoveTurns.{four-restless}
use Rattle.table.proofs.moving.rests_nowhere.Goals as goal

pub returns : goal.returns
returns c =
    four-restless c.args.table.now c.args.k
