-- `drawing::striding::draw_words` meets its contract (rule 8, rule 13).
use Rattle.std.proofs.Common.{◌≡◌, false, ◌-◌, length}
use Rattle.steps.specs.Unrolled.{nothing_resumed}
use Rattle.drawing.specs.DrawingOn.{Drew}
use Rattle.drawing.proofs.striding.draw_words.Given as goal

-- So far as the first word led, from there on.
abbrev pub invariant-loop-s : goal.invariant-loop-s
invariant-loop-s l = Drew l.s l.text nothing_resumed l.initial.events l.initial.g.place l.initial.g.at l.initial.g.pen l.events l.g.place l.g.at l.g.pen
    × (l.g.place.empty ≡ false)

abbrev pub decreases-loop-s : goal.decreases-loop-s
decreases-loop-s l = length l.text - l.g.at
