-- `rows::stand::lay_row` meets its contract (rule 10).
use Rattle.rows.specs.Standing.{laid_row}
use Rattle.rows.proofs.stand.lay_row.Goals as goal

pub returns : goal.returns
unfolding laid_row
returns c =
    c.lay_line.ensures
