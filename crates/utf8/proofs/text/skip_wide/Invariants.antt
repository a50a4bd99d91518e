-- `utf8::text::skip_wide` meets its contract (refusal 4, refusal 6).
use Rattle.std.proofs.Common.{◌-◌, ◌≤◌, length}
use Rattle.utf8.specs.Ascii.{Passed}
use Rattle.utf8.proofs.text.skip_wide.Given as goal

abbrev pub invariant-loop-at : goal.invariant-loop-at
invariant-loop-at l = Passed l.text l.from l.at × (l.at ≤ length l.text)

abbrev pub decreases-loop-at : goal.decreases-loop-at
decreases-loop-at l = length l.text - l.at
