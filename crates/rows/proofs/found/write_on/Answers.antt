-- `rows::found::write_on` meets its contract (rule 8, rule 10).
use Rattle.rows.specs.DrawnLines.{gone_on, can_here, gone_here}
use Rattle.rows.proofs.found.write_on.Goals as goal

pub write_told-requires : goal.write_told-requires
write_told-requires g c =
    can_here (g.met.D.Drawer.alike _ _) c.requires.can c.requires.chars_value

pub returns-then-not-is_known : goal.returns-then-not-is_known
returns-then-not-is_known g c =
    gone_here (g.met.D.Drawer.alike _ _) c.requires.can c.requires.chars_value c.write_told.ensures

pub write_cuts-requires-clause-can : goal.write_cuts-requires-clause-can
write_cuts-requires-clause-can g c =
    can_here (g.met.D.Drawer.alike _ _) c.requires.can c.requires.chars_value

pub returns : goal.returns
returns g c =
    rw c.reached_at.ensures (gone_here (g.met.D.Drawer.alike _ _) c.requires.can c.requires.chars_value (gone_on c.write_cuts.ensures.passed))
