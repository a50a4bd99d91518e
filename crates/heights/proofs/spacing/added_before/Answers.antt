use Rattle.std.proofs.Common.{arith}
use Rattle.meaning.specs.Table.{entries_in}
use Rattle.heights.specs.Heights.{added-small}
use Rattle.heights.proofs.Adding.{added-start, added_more, added-end}
use Rattle.heights.proofs.spacing.added_before.Goals as goal

pub loop-i-init : goal.loop-i-init
loop-i-init c =
    added-start c.args.s c.args.table.now c.args.k

pub overflow_add-sum : goal.overflow_add-sum
overflow_add-sum c =
    let more = added_more c.args.s c.args.table.now c.args.k c.loop-i.i c.loop-i-test.true in
    record { fits = omega (arith, c.end_adds-sum.ensures, added-small c.args.s c.requires.0 c.args.k (entries_in c.args.k c.args.table.now)) }

pub loop-i-preserved : goal.loop-i-preserved
loop-i-preserved c =
    let more = added_more c.args.s c.args.table.now c.args.k c.loop-i.i c.loop-i-test.true in
    omega (arith, c.end_adds-sum.ensures)

pub returns : goal.returns
returns c =
    omega (arith, added-end c.args.s c.args.table.now c.args.k c.loop-i.i c.loop-i-test.false)
