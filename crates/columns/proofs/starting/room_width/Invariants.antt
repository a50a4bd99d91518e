-- `columns::starting::room_width` meets its contract. The invariant: no width below `low` does.
use Rattle.std.proofs.Common.{◌-◌, ◌≤◌}
use Rattle.utf8.specs.Decoding.{decode_all}
use Rattle.columns.specs.FirstWidth.{NoneBelow}
use Rattle.columns.proofs.starting.room_width.Given as goal

abbrev pub invariant-loop-low : goal.invariant-loop-low
invariant-loop-low l = (l.low ≤ l.high) × (l.high ≤ 4097) × NoneBelow l.s l.h (decode_all l.text) l.low

abbrev pub decreases-loop-low : goal.decreases-loop-low
decreases-loop-low l = l.high - l.low
