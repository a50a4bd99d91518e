use Rattle.std.proofs.Common.{sym, ◌∙◌, arith}
use Rattle.again.proofs.SkipLaws.{skip-past, skip-met, skip-end}
use Rattle.again.proofs.stop.skip_before.Goals as goal

pub returns-then-not-stands_before : goal.returns-then-not-stands_before
returns-then-not-stands_before c =
    omega (
      arith,
      skip-met c.args.edit c.args.start.0 c.args.table.now c.args.lines c.loop-i.i c.loop-i-test.true
          (sym c.stands_before.ensures ∙ c.if-not-stands_before.true),
    )

pub loop-i-preserved : goal.loop-i-preserved
loop-i-preserved c =
    omega (
      arith,
      skip-past c.args.edit c.args.start.0 c.args.table.now c.args.lines c.loop-i.i c.loop-i-test.true
          (sym c.stands_before.ensures ∙ c.if-not-stands_before.false),
    )

pub returns : goal.returns
returns c =
    omega (arith, skip-end c.args.edit c.args.start.0 c.args.table.now c.args.lines c.loop-i.i c.loop-i-test.false)
