-- `paging::counting::page_count` meets its contract (rule 10).
use Rattle.std.proofs.Common.{◌∙◌}
use Rattle.page_list.specs.PageCounts.{count-is}
use Rattle.page_list.proofs.counting.page_count.Goals as goal

pub returns : goal.returns
returns c =
    c.div_ceil.ensures ∙ count-is c.args.h c.requires c.args.lines
