-- `parser::lexer::alone` meets its contract (rule 2, rule 3).
use Rattle.std.proofs.Common.{refl}
use Rattle.parser.specs.Scanning.{alone_at}
use Rattle.parser.proofs.lexer.alone.Goals as goal

pub returns : goal.returns
unfolding alone_at
returns c =
    refl
