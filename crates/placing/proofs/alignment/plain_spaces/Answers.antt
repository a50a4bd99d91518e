-- `placing::alignment::plain_spaces` meets its contract (rule 6).
use Rattle.std.proofs.Common.{refl}
use Rattle.meaning.specs.Alignment.{plain_spaces}
use Rattle.placing.proofs.alignment.plain_spaces.Goals as goal

pub returns : goal.returns
unfolding plain_spaces
returns c =
    refl
