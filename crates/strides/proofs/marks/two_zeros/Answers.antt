-- `strides::marks::two_zeros` meets its contract (rule 8).
use Rattle.std.proofs.Common.{arith}
use mathlib.Core.Bool.{false≢true}
use Rattle.parser.specs.MarkLaws.{mark-room}
use Rattle.strides.proofs.marks.two_zeros.Goals as goal

pub returns-then-not-zero_at : goal.returns-then-not-zero_at
returns-then-not-zero_at c =
    λ e. absurd (false≢true e)

pub overflow_add-at : goal.overflow_add-at
overflow_add-at c =
    omega (arith, mark-room _ _ 3 (c.zero_at.ensures c.if-not-zero_at.false))

pub returns : goal.returns
returns c =
    λ e. (c.zero_at.ensures c.if-not-zero_at.false, c.zero_at-2.ensures e)
