use Rattle.std.proofs.Common.{arith, length-take-le}
use Rattle.clues.specs.Counting.{passing-next, passing-done, stop-within, same-part}
use Rattle.clues.proofs.stream.count_ended.Goals as goal

pub returns-then-end-stop : goal.returns-then-end-stop
returns-then-end-stop c =
    passing-done _ _ _ _ _ _ _ _ _ c.loop-n.invariant _ c.find_feed-stop.ensures
    (omega (arith, length-take-le c.args.end c.args.buffer.now c.requires.end_in_bounds, c.if-end-stop.true))

pub loop-n-preserved : goal.loop-n-preserved
loop-n-preserved c =
    passing-next _ _ _ _ _ _ _ _ _ c.loop-n.invariant _ c.find_feed-stop.ensures c.loop-n-test.true
    (omega (arith, length-take-le c.args.end c.args.buffer.now c.requires.end_in_bounds, c.if-end-stop.false)) _
    (same-part c.args.buffer.now c.loop-n.at c.find_feed-stop.result c.args.end
    (omega (
      arith,
      stop-within _ _ _ _ _ _ _ _ _ c.loop-n.invariant _ c.find_feed-stop.ensures,
      length-take-le c.args.end c.args.buffer.now c.requires.end_in_bounds,
    ))) _
    c.add_clue.auto.sums c.add_clue.ensures.sums_after
