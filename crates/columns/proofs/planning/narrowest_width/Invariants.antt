-- `columns::planning::narrowest_width` meets its contract. The invariant: the text fits in no width below this one.
-- Rule 10.
use Rattle.std.proofs.Common.{◌-◌}
use Rattle.utf8.specs.Decoding.{decode_all}
use Rattle.columns.specs.WidthTurns.{Sought}
use Rattle.columns.proofs.planning.narrowest_width.Given as goal

abbrev pub invariant-loop-w : goal.invariant-loop-w
invariant-loop-w l = Sought l.s l.h (decode_all l.text) l.skips l.w

abbrev pub decreases-loop-w : goal.decreases-loop-w
decreases-loop-w l = 4161 - l.w
