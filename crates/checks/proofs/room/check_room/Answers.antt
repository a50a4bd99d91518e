-- `checks::room::check_room` meets its contract (refusal 8).
use Rattle.std.proofs.Common.{arith}
use Rattle.laws.specs.GoodChecks.{has_room, has_no_room}
use Rattle.checks.proofs.room.check_room.Goals as goal

pub returns-then-room-needed : goal.returns-then-room-needed
returns-then-room-needed c =
    has_no_room c.args.room c.args.needed (omega arith)

pub returns : goal.returns
returns c =
    has_room c.args.room c.args.needed (omega arith)
