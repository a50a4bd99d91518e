-- `rows::lines::write_each` meets its contract. The invariants: what is still to be written, and to be put, stays the same (rule 10).
use Rattle.std.proofs.Common.{◌-◌, length}
use Rattle.rows.specs.Turns.{Wrote}
use Rattle.rows.specs.DrawnLines.{SoFar}
use Rattle.rows.proofs.lines.write_each.Given as goal

abbrev pub invariant-loop-s : goal.invariant-loop-s
invariant-loop-s g l =
    Wrote l.s l.text l.initial.table l.table l.n l.stand × SoFar (g.D.Drawer.to_draw l.s l.text) l.s l.text l.n l.initial.events l.events l.k l.stand

abbrev pub decreases-loop-s : goal.decreases-loop-s
decreases-loop-s g l = length l.text - l.stand.at.0
