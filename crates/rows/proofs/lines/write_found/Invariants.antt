-- `rows::lines::write_found` meets its contract. The invariants: what is still to be written, and to be put, stays the same (rule 10).
use Rattle.std.proofs.Common.{◌-◌, length}
use Rattle.rows.specs.Turns.{Wrote}
use Rattle.rows.specs.DrawnLines.{SoFar}
use Rattle.rows.proofs.lines.write_found.Given as goal

abbrev pub invariant-loop-stand : goal.invariant-loop-stand
invariant-loop-stand g l =
    Wrote l.r.settings l.text l.initial.table l.table l.n l.stand
    × SoFar (g.D.Drawer.to_draw l.r.settings l.text) l.r.settings l.text l.n l.initial.events l.events l.k l.stand

abbrev pub decreases-loop-stand : goal.decreases-loop-stand
decreases-loop-stand g l = length l.text - l.stand.at.0
