-- `paging::listed::kept_pages` meets its contract (rule 10).
use Rattle.std.proofs.Common.{arith, sym}
use Rattle.paging.specs.PagesKept.{kept-some, kept-all}
use Rattle.paging.proofs.listed.kept_pages.Goals as goal

pub returns-then-first-lines : goal.returns-then-first-lines
returns-then-first-lines c =
    sym (kept-some c.args.h c.args.first c.args.lines (omega arith))

pub returns : goal.returns
returns c =
    sym (kept-all c.args.h c.args.first c.args.lines (omega arith))
