-- `table::moving::move_plain` meets its contract (laying again).
use Rattle.std.proofs.Common.{arith, length-set}
use Rattle.table.proofs.InPlace.{here-movable, reach-movable, count-movable, moved_in_turn}
use Rattle.table.proofs.moving.move_plain.Goals as goal

pub moved_number-requires : goal.moved_number-requires
moved_number-requires c =
    (c.requires.0.shift.edit, (here-movable _ _ _ c.requires.0).start)

pub bounds-table-at-3 : goal.bounds-table-at-3
bounds-table-at-3 c =
    simp length-set (omega arith)

pub moved_number-requires-2 : goal.moved_number-requires-2
moved_number-requires-2 c =
    (c.requires.0.shift.edit, reach-movable _ _ _ c.requires.0 _)

pub bounds-table-at-4 : goal.bounds-table-at-4
bounds-table-at-4 c =
    simp length-set (omega arith)

pub bounds-table-at-5 : goal.bounds-table-at-5
bounds-table-at-5 c =
    simp length-set (omega arith)

pub shifted_count-requires : goal.shifted_count-requires
shifted_count-requires c =
    (c.requires.0.shift, count-movable _ _ _ c.requires.0 _ _)

pub bounds-table-at-6 : goal.bounds-table-at-6
bounds-table-at-6 c =
    simp length-set (omega arith)

pub returns : goal.returns
returns c =
    moved_in_turn c.args.table.now c.args.k c.args.shift c.requires.0 _ _ _ c.moved_number.ensures c.moved_number-2.ensures
    c.shifted_count.ensures c.requires.1
