-- `rows::line::laid_at` meets its contract (rule 10).
use Rattle.placing.specs.Laying.{laid_at}
use Rattle.rows.proofs.line.laid_at.Goals as goal

pub returns : goal.returns
unfolding laid_at
returns c =
    rw (c.is_last-last.ensures, c.entry_at-entry.ensures)
