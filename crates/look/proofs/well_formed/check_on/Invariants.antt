-- `table::well_formed::check_on` meets its contract (refusal 5).
use Rattle.std.proofs.Common.{◌≡◌}
use Rattle.look.specs.Skipping.{check_from}
use Rattle.look.proofs.well_formed.check_on.Given as goal

abbrev pub invariant-loop-k : goal.invariant-loop-k
invariant-loop-k l = check_from l.table l.lines l.bytes.0 l.k ≡ check_from l.table l.lines l.bytes.0 l.j
