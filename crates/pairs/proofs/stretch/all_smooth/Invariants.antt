-- `pairs::stretch::all_smooth` meets its contract (rule 2).
use Rattle.std.proofs.Common.{◌≡◌, true}
use Rattle.pairs.specs.Stretches.{Smooth}
use Rattle.pairs.proofs.stretch.all_smooth.Given as goal

abbrev pub invariant-loop-i : goal.invariant-loop-i
invariant-loop-i l = l.all ≡ true → Smooth l.text l.from l.i
