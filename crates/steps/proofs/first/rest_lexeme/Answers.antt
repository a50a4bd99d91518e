-- `steps::first::rest_lexeme` meets its contract (rule 8, rule 9).
use Rattle.std.proofs.Common.{refl}
use Rattle.steps.specs.Pending.{rest_lexeme}
use Rattle.steps.proofs.first.rest_lexeme.Goals as goal

pub returns : goal.returns
unfolding rest_lexeme
returns c =
    refl
