-- `checks::settings::sizes_in_range` meets its contract (refusal 1, refusal 2).
use Rattle.std.proofs.Common.{refl}
use Rattle.meaning.specs.Settings.{sizes_in_range}
use Rattle.checks.proofs.settings.sizes_in_range.Goals as goal

pub returns : goal.returns
unfolding sizes_in_range
returns c =
    refl
