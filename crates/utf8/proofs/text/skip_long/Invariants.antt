-- `utf8::text::skip_long` meets its contract (refusal 4, refusal 6).
use Rattle.std.proofs.Common.{◌-◌, ◌≤◌, length}
use Rattle.utf8.specs.Ascii.{Passed}
use Rattle.utf8.proofs.text.skip_long.Given as goal

abbrev pub invariant-loop-len : goal.invariant-loop-len
invariant-loop-len l = Passed l.text l.from l.at × (l.at ≤ length l.text)

abbrev pub decreases-loop-len : goal.decreases-loop-len
decreases-loop-len l = length l.text - l.at
