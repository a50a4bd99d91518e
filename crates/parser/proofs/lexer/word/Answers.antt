-- `parser::lexer::word` meets its contract (rule 2, rule 3).
use Rattle.std.proofs.Common.{refl}
use Rattle.parser.specs.Scanning.{word_of}
use Rattle.parser.proofs.lexer.word.Goals as goal

pub returns : goal.returns
unfolding word_of
returns c =
    refl
