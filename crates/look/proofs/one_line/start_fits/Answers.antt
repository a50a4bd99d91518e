-- `table::one_line::start_fits` meets its contract (refusal 5).
use Rattle.std.proofs.Common.{refl}
use Rattle.look.specs.OneLine.{start_fits}
use Rattle.look.proofs.one_line.start_fits.Goals as goal

pub returns : goal.returns
unfolding start_fits
returns c =
    refl
