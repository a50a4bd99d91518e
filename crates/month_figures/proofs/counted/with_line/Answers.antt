-- `month_figures::counted::with_line` meets its contract.
use Rattle.std.proofs.Common.{◌∙◌, eqb}
use Rattle.month_figures.specs.Tallies.{with_line, one-where}
use Rattle.month_figures.proofs.counted.with_line.Goals as goal

pub returns : goal.returns
unfolding with_line
returns c =
    rw (c.from.ensures ∙ one-where (eqb c.args.ending 3), c.from-2.ensures)
