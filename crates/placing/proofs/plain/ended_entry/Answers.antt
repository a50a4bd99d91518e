-- `placing::plain::ended_entry` meets its contract (rule 12).
use Rattle.std.proofs.Common.{arith}
use Rattle.placing.specs.Plain.{ended_entry}
use Rattle.placing.proofs.plain.ended_entry.Goals as goal

pub overflow_mul-wide : goal.overflow_mul-wide
overflow_mul-wide c =
    record { fits = omega (arith, c.requires.0, c.requires.1) }

pub returns : goal.returns
unfolding ended_entry
returns c =
    rw (c.left_of-left.ensures, c.from-ending.ensures)
