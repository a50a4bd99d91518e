-- `again::writing::write_again` meets its contract (laying again).
use Rattle.std.proofs.Common.{◌-◌}
use Rattle.again.specs.Writing.{Wrote}
use Rattle.again.proofs.writing.write_again.Given as goal

abbrev pub invariant-loop-n : goal.invariant-loop-n
invariant-loop-n l = Wrote l.s l.part l.initial.table l.table l.base.0 l.k l.laid l.initial.stand l.n l.stand
