-- `drawing::plain::draw_plain_words` meets its contract (rule 8, rule 13).
use Rattle.std.proofs.Common.{◌-◌}
use Rattle.drawing.specs.PlainDrawn.{plain_place}
use Rattle.drawing.proofs.PlainEvents.{Turn}
use Rattle.drawing.proofs.plain.draw_plain_words.Given as goal

abbrev pub invariant-loop-to : goal.invariant-loop-to
invariant-loop-to l = Turn l.s l.text l.at l.end l.x l.initial.events (plain_place l.s l.x (l.initial.to - l.at)) l.initial.to l.initial.pen l.events l.to l.pen

abbrev pub decreases-loop-to : goal.decreases-loop-to
decreases-loop-to l = l.end - l.to
