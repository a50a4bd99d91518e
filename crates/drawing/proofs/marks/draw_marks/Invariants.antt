-- `drawing::marks::draw_marks` meets its contract (rule 8, rule 13).
use Rattle.std.proofs.Common.{◌-◌, ◌≡◌, false, length}
use Rattle.steps.specs.Unrolled.{nothing_resumed}
use Rattle.drawing.specs.DrawingOn.{Drew}
use Rattle.drawing.proofs.marks.draw_marks.Given as goal

abbrev pub invariant-loop-events : goal.invariant-loop-events
invariant-loop-events l = Drew l.s l.text nothing_resumed l.initial.events l.initial.p l.initial.at l.initial.pen l.events l.p l.at l.pen × (l.p.empty ≡ false)

abbrev pub decreases-loop-events : goal.decreases-loop-events
decreases-loop-events l = length l.text - l.at
