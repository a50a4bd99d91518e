use Rattle.std.proofs.Common.{◌+◌, ◌-◌, ◌/◌, arith, rules}
use Rattle.laws.specs.Indexes.{y_at}
use Rattle.index.specs.Stretch.{one_left, lower_half}
use Rattle.index.proofs.ReadYs.{read-most, passed-stretch}
use Rattle.index.proofs.halving.+last_under.Goals as goal

pub returns-then-high-low-eq1 : goal.returns-then-high-low-eq1
returns-then-high-low-eq1 t c =
    one_left c.args.y c.args.index.now c.args.low c.args.high c.requires (omega (arith, c.requires.some))

-- The lower half, where the middle line's y is above the given one.
pub last_under-requires-2 : goal.last_under-requires-2
last_under-requires-2 t c = (
  omega (arith, c.requires.some),
  passed-stretch c.args.y c.ranges.y c.args.index.now c.args.low (c.args.low + (c.args.high - c.args.low) / 2)
      (lower_half c.args.y c.args.index.now c.args.low c.args.high c.requires (c.args.low + (c.args.high - c.args.low) / 2) (omega (arith, c.requires.some)) (omega (arith, c.requires.some))
      (read-most (y_at c.args.index.now (c.args.low + (c.args.high - c.args.low) / 2)) c.args.y _ (search rules) c.ranges.y c.if-index-middle.false)),
)
