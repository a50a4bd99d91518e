-- `table::one_line::count_fits` meets its contract (refusal 5).
use Rattle.std.proofs.Common.{refl}
use Rattle.look.specs.OneLine.{count_fits}
use Rattle.look.proofs.one_line.count_fits.Goals as goal

pub returns : goal.returns
unfolding count_fits
returns c =
    refl
