-- `utf8::whole::all_follow` meets its contract (refusal 4).
use Rattle.std.proofs.Common.{◌≡◌, true}
use Rattle.utf8.specs.Whole.{Follows}
use Rattle.utf8.proofs.whole.all_follow.Given as goal

abbrev pub invariant-loop-i : goal.invariant-loop-i
invariant-loop-i l = l.all ≡ true → Follows l.text l.from l.i
