-- `table::entries::write_entry` meets its contract (rule 12).
use Rattle.std.proofs.Common.{◌*◌, arith, length-set}
use Rattle.meaning.specs.Table.{entry_numbers, of_entry}
use Rattle.table.specs.Numbers.{stored-are}
use Rattle.table.proofs.entries.write_entry.Goals as goal

pub bounds-table-at-2 : goal.bounds-table-at-2
bounds-table-at-2 c =
    simp length-set (omega arith)

pub bounds-table-at-3 : goal.bounds-table-at-3
bounds-table-at-3 c =
    simp length-set (omega arith)

pub bounds-table-at-4 : goal.bounds-table-at-4
bounds-table-at-4 c =
    simp length-set (omega arith)

pub bounds-table-at-5 : goal.bounds-table-at-5
bounds-table-at-5 c =
    simp length-set (omega arith)

pub bounds-table-at-6 : goal.bounds-table-at-6
bounds-table-at-6 c =
    simp length-set (omega arith)

pub bounds-table-at-7 : goal.bounds-table-at-7
bounds-table-at-7 c =
    simp length-set (omega arith)

pub bounds-table-at-8 : goal.bounds-table-at-8
bounds-table-at-8 c =
    simp length-set (omega arith)

pub bounds-table-at-9 : goal.bounds-table-at-9
bounds-table-at-9 c =
    simp length-set (omega arith)

pub bounds-table-at-10 : goal.bounds-table-at-10
bounds-table-at-10 c =
    simp length-set (omega arith)

pub bounds-table-at-11 : goal.bounds-table-at-11
bounds-table-at-11 c =
    simp length-set (omega arith)

pub shape_of-table : goal.shape_of-table
shape_of-table c =
    simp length-set

pub returns : goal.returns
unfolding of_entry
returns c =
    stored-are (of_entry c.args.e) c.args.table.now (entry_numbers * c.args.k) c.requires
