use Rattle.std.proofs.Common.{arith}
use Rattle.columns.specs.FirstWidth.{filled-below}
use Rattle.columns.proofs.starting.room_width.Goals as goal

pub loop-low-preserved-then-lines-filled : goal.loop-low-preserved-then-lines-filled
loop-low-preserved-then-lines-filled c = (
  omega (arith, c.loop-low-test.true),
  c.loop-low.invariant.1,
  filled-below c.args.s c.args.text.now c.args.h _ c.requires.0.settings.0 c.requires.1 (omega (arith, c.if-lines-filled.true, c.lines_filled-filled.ensures)),
)
