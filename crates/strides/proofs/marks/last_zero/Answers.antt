use Rattle.std.proofs.Common.{◌+◌, ◌≤◌, arith, length}
use Rattle.parser.specs.MarkLaws.{mark-room}
use Rattle.strides.specs.Marks.{Zeros}
use Rattle.strides.specs.OnwardLaws.{onward-none, onward-on}
use Rattle.strides.specs.MarkLaws.{zeros_onward}
use Rattle.strides.proofs.marks.last_zero.Goals as goal

pub loop-at-init : goal.loop-at-init
loop-at-init c =
    λ s p m e r. onward-none r

pub overflow_add-at : goal.overflow_add-at
overflow_add-at c =
    omega (arith, ((mark-room _ _ 3 (c.two_zeros.ensures c.loop-at-test.true).0).2))

pub loop-at-smaller : goal.loop-at-smaller
loop-at-smaller c =
    omega (arith, ((mark-room _ _ 3 (c.two_zeros.ensures c.loop-at-test.true).0).2))

pub loop-at-preserved : goal.loop-at-preserved
loop-at-preserved c =
    λ s p m e r. let o = c.loop-at.invariant s p m e r in onward-on o (zeros_onward s p _ m e o.ready (c.two_zeros.ensures c.loop-at-test.true))
