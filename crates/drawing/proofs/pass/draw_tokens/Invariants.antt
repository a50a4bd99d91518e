-- `drawing::pass::draw_tokens` meets its contract (rule 8, rule 9, rule 13).
use Rattle.std.proofs.Common.{◌-◌, length}
use Rattle.steps.specs.Foreseeing.{ForeseesFrom}
use Rattle.drawing.specs.Drawn.{drawn_from}
use Rattle.ink.specs.Sheet.{sheet, drawn_on}
use Rattle.drawing.proofs.PassLoop.{Drawing}
use Rattle.drawing.proofs.pass.draw_tokens.Given as goal

abbrev pub invariant-loop-known : goal.invariant-loop-known
invariant-loop-known l = Drawing l.text l.s (drawn_on (sheet l.initial.events l.initial.on.pen) (drawn_from l.s l.initial.on.place l.text l.initial.on.at l.initial.held.chars.0 l.initial.held.count.0)) l.events l.on.place l.on.at l.held l.on.pen
    × ForeseesFrom l.s l.on.place l.text l.on.at l.held l.seen

abbrev pub decreases-loop-known : goal.decreases-loop-known
decreases-loop-known l = length l.text - l.on.at
