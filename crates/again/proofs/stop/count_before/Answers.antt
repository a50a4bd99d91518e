-- `again::stop::count_before` meets its contract (laying again).
use Rattle.again.proofs.SkipLaws.{count_none, count-line}
use Rattle.again.proofs.stop.count_before.Goals as goal

pub returns-then-lines-j : goal.returns-then-lines-j
returns-then-lines-j c =
    count_none c.args.table.now c.args.lines c.args.j c.if-lines-j.true

pub returns : goal.returns
returns c =
    count-line c.args.table.now c.args.lines c.args.j c.if-lines-j.false
