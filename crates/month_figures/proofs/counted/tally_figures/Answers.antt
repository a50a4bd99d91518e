-- `month_figures::counted::tally_figures` meets its contract.
use Rattle.std.proofs.Common.{rules}
use Rattle.month_figures.specs.Tallies.{tally_figures}
use Rattle.month_figures.proofs.counted.tally_figures.Goals as goal

pub returns : goal.returns
unfolding tally_figures
returns c =
    search rules
