-- `drawing::striding::draw_strides` meets its contract (rule 8, rule 13).
use Rattle.std.proofs.Common.{◌≡◌, false, ◌-◌, length}
use Rattle.steps.specs.Unrolled.{nothing_resumed}
use Rattle.drawing.specs.DrawingOn.{Drew}
use Rattle.drawing.proofs.striding.draw_strides.Given as goal

abbrev pub invariant-loop-waits : goal.invariant-loop-waits
invariant-loop-waits l = Drew l.s l.text nothing_resumed l.initial.events l.initial.place l.initial.at l.initial.pen l.events l.place l.at l.pen × (l.place.empty ≡ false)

abbrev pub decreases-loop-waits : goal.decreases-loop-waits
decreases-loop-waits l = length l.text - l.at
