-- `rows::lines::pass_lines` meets its contract. The invariant: the lines passed and those that are left are all lines of the text, and what is
-- put when the events that are left are put stays the same. Rule 10.
use Rattle.std.proofs.Common.{◌-◌, length}
use Rattle.rows.specs.DrawnLines.{SoFar}
use Rattle.rows.proofs.lines.pass_lines.Given as goal

abbrev pub invariant-loop-s : goal.invariant-loop-s
invariant-loop-s g l = SoFar (g.D.Drawer.to_draw l.s l.text) l.s l.text l.n l.initial.events l.events l.k l.stand

abbrev pub decreases-loop-s : goal.decreases-loop-s
decreases-loop-s g l = length l.text - l.stand.at.0
