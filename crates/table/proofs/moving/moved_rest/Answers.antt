-- `table::moving::moved_rest` meets its contract (laying again).
use Rattle.std.proofs.Common.{arith}
use Rattle.table.proofs.MovedParts.{rest-stays, rest-moved}
use Rattle.table.proofs.moving.moved_rest.Goals as goal

pub returns-then-rest-eq0 : goal.returns-then-rest-eq0
returns-then-rest-eq0 c =
    rest-stays c.args.edit c.args.rest c.if-rest-eq0.true

pub moved_offset-requires : goal.moved_offset-requires
moved_offset-requires c =
    (c.requires.0, c.requires.1 (omega (arith, c.if-rest-eq0.false)))

pub returns : goal.returns
returns c =
    rest-moved c.args.edit c.args.rest c.moved_offset.result c.if-rest-eq0.false c.moved_offset.ensures
