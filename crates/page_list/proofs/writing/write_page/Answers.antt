-- `paging::writing::write_page` meets its contract (rule 10).
use Rattle.std.proofs.Common.{◌*◌}
use Rattle.meaning.specs.Pages.{page_numbers, of_page}
use Rattle.table.specs.Numbers.{stored-are}
use Rattle.page_list.proofs.writing.write_page.Goals as goal

pub returns : goal.returns
unfolding of_page
returns c =
    stored-are (of_page c.args.p) c.args.pages.now (page_numbers * c.args.k) c.requires
