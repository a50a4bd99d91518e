-- `table::moving::moved_entry` meets its contract (laying again).
use Rattle.table.proofs.MovedParts.{entry-moved}
use Rattle.table.proofs.moving.moved_entry.Goals as goal

pub returns : goal.returns
returns c =
    entry-moved c.args.shift.edit c.args.shift.from.0 c.args.shift.to.0 c.args.e _ _ _ _ c.moved_offset.ensures
    c.moved_rest.ensures c.moved_offset-2.ensures c.shifted_count.ensures
