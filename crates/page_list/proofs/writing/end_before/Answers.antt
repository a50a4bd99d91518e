-- `paging::writing::end_before` meets its contract (rule 10).
use Rattle.std.proofs.Common.{arith}
use Rattle.page_list.specs.PageTurns.{ends_at, ends_last}
use Rattle.page_list.proofs.writing.end_before.Goals as goal

pub returns-then-line-lines : goal.returns-then-line-lines
returns-then-line-lines c =
    ends_at c.args.table.now c.args.lines c.args.bytes.0 c.args.line (omega arith)

pub returns : goal.returns
returns c =
    ends_last c.args.table.now c.args.lines c.args.bytes.0 c.args.line (omega arith)
