-- `parser::part::part_at` meets its contract (rule 2).
use Rattle.std.proofs.Common.{refl}
use Rattle.parser.specs.Scanning.{part_at}
use Rattle.parser.proofs.part.part_at.Goals as goal

pub returns : goal.returns
unfolding part_at
returns c =
    refl
