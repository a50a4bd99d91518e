-- `c_given::settings_from` meets its contract.
use Rattle.std.proofs.Common.{to_z-of_z}
use Rattle.meaning.specs.Settings.{settings_of}
use Rattle.c_given.proofs.settings_from.Goals as goal

pub returns : goal.returns
unfolding settings_of
returns c =
    rw (to_z-of_z c.ranges.top)
