-- `month_figures::counted::refused_figures` meets its contract (refusal 3, refusal 4).
use Rattle.std.proofs.Common.{◌∙◌, eqb}
use Rattle.meaning.specs.Month.{figures_by}
use Rattle.month_figures.specs.Tallies.{one-where}
use Rattle.month_figures.proofs.counted.refused_figures.Goals as goal

pub returns : goal.returns
unfolding figures_by
returns c =
    rw (c.from.ensures ∙ one-where (eqb c.number-n.result 3), c.from-2.ensures ∙ one-where (eqb c.number-n.result 4), c.number-n.ensures)
