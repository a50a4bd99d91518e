-- `rows::line::placed_by` meets its contract (rule 10).
use Rattle.placing.specs.Laying.{placed_by}
use Rattle.rows.proofs.line.placed_by.Goals as goal

pub returns : goal.returns
unfolding placed_by
returns c =
    c.place_line.ensures
