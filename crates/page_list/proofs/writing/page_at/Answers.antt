-- `paging::writing::page_at` meets its contract (rule 10).
use Rattle.std.proofs.Common.{◌*◌, get_or}
use Rattle.meaning.specs.Table.{entry_numbers}
use Rattle.page_list.specs.PageTurns.{page_here}
use Rattle.page_list.proofs.writing.page_at.Goals as goal

pub returns : goal.returns
unfolding page_here
returns c =
    λ i. record { first = c.args.first; start = record { 0 = get_or c.args.table.now (entry_numbers * c.args.first) 0 }; end = record { 0 = c.end_before-end.ensures i } }
