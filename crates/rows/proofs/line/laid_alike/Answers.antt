-- `rows::line::laid_alike` meets its contract (rule 10).
use Rattle.rows.proofs.line.laid_alike.Goals as goal

pub returns : goal.returns
returns c =
    rw c.placed_by-p.ensures at c.laid_at.ensures
