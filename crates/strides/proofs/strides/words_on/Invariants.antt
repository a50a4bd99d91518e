-- `strides::strides::words_on` meets its contract (rule 8).
use Rattle.std.proofs.Common.{◌≡◌, false, ◌-◌, length}
use Rattle.steps.specs.Unrolled.{nothing_resumed}
use Rattle.strides.specs.Strides.{Goes}
use Rattle.strides.proofs.strides.words_on.Given as goal

-- So far as the first word led, from there on.
abbrev pub invariant-loop-far : goal.invariant-loop-far
invariant-loop-far l = Goes l.s l.initial.g.place l.text l.initial.g.at.0 nothing_resumed l.initial.g.measure l.g × (l.g.place.empty ≡ false)

abbrev pub decreases-loop-far : goal.decreases-loop-far
decreases-loop-far l = length l.text - l.g.at.0
