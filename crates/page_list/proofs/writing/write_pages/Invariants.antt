-- `paging::writing::write_pages` meets its contract. The invariant: what is written when the pages that are left are written stays the
-- same (rule 10).
use Rattle.std.proofs.Common.{◌*◌}
use Rattle.page_list.specs.PageTurns.{Listed}
use Rattle.page_list.proofs.writing.write_pages.Given as goal

abbrev pub invariant-loop-k : goal.invariant-loop-k
invariant-loop-k l = Listed l.table l.lines l.h l.kept l.initial.pages l.pages l.k (l.k * l.h)
