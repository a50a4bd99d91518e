-- `rows::found::write_told` meets its contract. The invariant: what is still to be written, and to be put, stays the same (rule 10).
use Rattle.std.proofs.Common.{◌-◌, length}
use Rattle.rows.specs.DrawnLines.{PassedTo}
use Rattle.rows.proofs.found.write_told.Given as goal

abbrev pub invariant-loop-here : goal.invariant-loop-here
invariant-loop-here g l = PassedTo (g.D.Drawer.to_draw l.r.settings l.text) l.r.settings l.text l.initial.table l.initial.events l.initial.here l.table l.events l.here

abbrev pub decreases-loop-here : goal.decreases-loop-here
decreases-loop-here g l = length l.text - l.here.at.0
