use Rattle.std.proofs.Common.{refl, arith}
use Rattle.table.proofs.SearchLaws.{search-past, search-met, search-end}
use Rattle.table.proofs.search.affected_from.Goals as goal

pub loop-k-init : goal.loop-k-init
loop-k-init c =
    refl

pub returns-then-a-table : goal.returns-then-a-table
returns-then-a-table c =
    omega (arith, search-met c.args.table.now c.args.lines c.loop-k.k c.args.a.0 c.loop-k-test.true c.if-a-table.true)

pub loop-k-preserved : goal.loop-k-preserved
loop-k-preserved c =
    omega (arith, search-past c.args.table.now c.args.lines c.loop-k.k c.args.a.0 c.loop-k-test.true c.if-a-table.false)

pub returns : goal.returns
returns c =
    omega (arith, search-end c.args.table.now c.args.lines c.loop-k.k c.args.a.0 c.loop-k-test.false)
