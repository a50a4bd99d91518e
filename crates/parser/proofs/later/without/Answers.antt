-- `parser::later::without` meets its contract (rule 2, rule 8).
use Rattle.std.proofs.Common.{refl}
use Rattle.parser.specs.Shorter.{less}
use Rattle.parser.proofs.later.without.Goals as goal

pub returns : goal.returns
unfolding less
returns c =
    refl
