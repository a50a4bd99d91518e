-- `month::count_month` meets its contract.
use Rattle.std.proofs.Common.{arith}
use Rattle.month.specs.Blocks.{first-counts}
use Rattle.month.proofs.count_month.Goals as goal

pub count_stream-requires : goal.count_stream-requires
count_stream-requires g c =
    first-counts _ _ 64 _ c.no_figures-sums.ensures c.settings.ensures c.requires.narrow (omega (arith, c.requires.widths_len_bound))
