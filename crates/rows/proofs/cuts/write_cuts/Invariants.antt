-- `rows::cuts::write_cuts` meets its contract. The invariant: what is still to be written, and to be put, stays the same, and what is left of
-- the word stands where the next line starts (rule 8, rule 10).
use Rattle.std.proofs.Common.{◌<◌}
use Rattle.placing.specs.LeftWords.{LeftWord}
use Rattle.rows.specs.DrawnLines.{PassedTo}
use Rattle.rows.proofs.cuts.write_cuts.Given as goal

abbrev pub invariant-loop-left : goal.invariant-loop-left
invariant-loop-left g l =
    PassedTo (g.D.Drawer.to_draw l.r.settings l.text) l.r.settings l.text l.initial.table l.initial.events l.initial.here l.table l.events l.here
    × LeftWord l.text l.here.at.0 l.word.end.0 l.left l.word.weight.0 l.word.reach.0 × (l.left < l.word.chars.0 → l.initial.here.at.0 < l.here.at.0)

abbrev pub decreases-loop-left : goal.decreases-loop-left
decreases-loop-left g l = l.left
