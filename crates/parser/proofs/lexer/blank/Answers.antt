-- `parser::lexer::blank` meets its contract (rule 2, rule 3).
use Rattle.std.proofs.Common.{refl}
use Rattle.parser.specs.Scanning.{blank_of}
use Rattle.parser.proofs.lexer.blank.Goals as goal

pub returns : goal.returns
unfolding blank_of
returns c =
    refl
