-- `rows::plain::write_plain` meets its contract. The invariant: what is still to be written, and to be put, stays the same (rule 10).
use Rattle.std.proofs.Common.{◌-◌, length}
use Rattle.rows.specs.DrawnLines.{PassedTo}
use Rattle.rows.proofs.plain.write_plain.Given as goal

abbrev pub invariant-loop-line : goal.invariant-loop-line
invariant-loop-line g l = PassedTo (g.D.Drawer.to_draw l.r.settings l.text) l.r.settings l.text l.initial.table l.initial.events l.initial.here l.table l.events l.here

abbrev pub decreases-loop-line : goal.decreases-loop-line
decreases-loop-line g l = length l.text - l.here.at.0
