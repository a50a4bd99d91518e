-- `placing::quick::measured_to` meets its contract (rule 8, rule 10).
use Rattle.std.proofs.Common.{arith}
use Rattle.placing.proofs.QuickLaws.{measured-here}
use Rattle.placing.proofs.quick.measured_to.Goals as goal

pub stands_at-requires : goal.stands_at-requires
stands_at-requires c =
    omega (arith, c.requires.1)

pub returns : goal.returns
returns c =
    measured-here _ _ _ _ _ _ _ _ _ _ c.plain_spaces.ensures c.start_place-start.ensures c.strode.ensures c.printed_at.ensures c.stands_at.ensures
