-- `table::entries::read_entry` meets its contract (rule 12).
use Rattle.std.proofs.Common.{◌*◌}
use Rattle.meaning.specs.Table.{entry_numbers}
use Rattle.table.proofs.Reading.{entry-from}
use Rattle.table.proofs.entries.read_entry.Goals as goal

pub returns : goal.returns
returns c =
    entry-from c.args.table.now (entry_numbers * c.args.k)
