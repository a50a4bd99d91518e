-- `table::one_line::has_no_rest` meets its contract (refusal 5).
use Rattle.std.proofs.Common.{refl}
use Rattle.meaning.specs.WellFormed.{no_rest}
use Rattle.look.proofs.one_line.has_no_rest.Goals as goal

pub returns : goal.returns
unfolding no_rest
returns c =
    refl
