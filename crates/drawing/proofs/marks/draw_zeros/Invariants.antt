-- `drawing::marks::draw_zeros` meets its contract (rule 8, rule 13).
use Rattle.std.proofs.Common.{◌-◌, length}
use Rattle.steps.specs.Unrolled.{nothing_resumed}
use Rattle.drawing.specs.DrawingOn.{Drew}
use Rattle.drawing.proofs.marks.draw_zeros.Given as goal

abbrev pub invariant-loop-s : goal.invariant-loop-s
invariant-loop-s l = Drew l.s l.text nothing_resumed l.initial.events l.p l.initial.at l.initial.pen l.events l.p l.at l.pen

abbrev pub decreases-loop-s : goal.decreases-loop-s
decreases-loop-s l = length l.text - l.at
