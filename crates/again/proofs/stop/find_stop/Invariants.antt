-- `again::stop::find_stop` meets its contract (laying again).
use Rattle.std.proofs.Common.{◌-◌, length}
use Rattle.again.specs.Seeking.{Seeking}
use Rattle.again.proofs.stop.find_stop.Given as goal

abbrev pub invariant-loop-s : goal.invariant-loop-s
invariant-loop-s l = Seeking l.s l.part l.table l.lines l.base.0 l.edit l.initial.stand l.n l.j l.stand

abbrev pub decreases-loop-s : goal.decreases-loop-s
decreases-loop-s l = length l.part - l.stand.at.0
