-- `placing::cuts::part_end` meets its contract (rule 2).
use Rattle.std.proofs.Common.{arith}
use Rattle.placing.specs.Leads.{ascii_between}
use Rattle.placing.specs.Leads.{ascii_between}
use Rattle.placing.proofs.cuts.part_end.Goals as goal

pub overflow_cast-bytes : goal.overflow_cast-bytes
overflow_cast-bytes c =
    record { fits = omega (arith, c.requires.1.ends, c.ranges.end) }

pub overflow_sub-bytes : goal.overflow_sub-bytes
overflow_sub-bytes c =
    omega (arith, c.requires.1.ends)

pub returns-then-bytes-chars : goal.returns-then-bytes-chars
returns-then-bytes-chars c =
    ascii_between _ _ c.args.end c.args.chars _ c.requires.1 c.requires.2 c.if-bytes-chars.true

pub skip_chars-requires : goal.skip_chars-requires
skip_chars-requires c =
    (c.requires.0, omega (arith, c.requires.1.all, c.requires.2))
