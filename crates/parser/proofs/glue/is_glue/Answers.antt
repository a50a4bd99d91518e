-- `parser::glue::is_glue` meets its contract (rule 2, rule 8).
use Rattle.std.proofs.Common.{refl}
use Rattle.meaning.specs.Characters.{glue}
use Rattle.parser.proofs.glue.is_glue.Goals as goal

pub returns : goal.returns
unfolding glue
returns c =
    refl
