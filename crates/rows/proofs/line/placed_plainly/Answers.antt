-- `rows::line::placed_plainly` meets its contract (rule 10).
use Rattle.rows.proofs.line.placed_plainly.Goals as goal

pub returns : goal.returns
returns c =
    rw c.plain_spaces-spaces.ensures
