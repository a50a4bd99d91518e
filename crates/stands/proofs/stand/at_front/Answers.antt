-- `stands::stand::at_front` meets its contract (rule 10).
use Rattle.std.proofs.Common.{arith}
use Rattle.stands.proofs.stand.at_front.Goals as goal

pub at_offset-requires : goal.at_offset-requires
at_offset-requires c =
    (c.requires, omega arith)

pub returns : goal.returns
returns c =
    c.at_offset.ensures
