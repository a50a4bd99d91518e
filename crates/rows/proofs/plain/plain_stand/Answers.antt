-- `rows::plain::plain_stand` meets its contract (rule 10).
use Rattle.rows.proofs.plain.plain_stand.Goals as goal

pub returns : goal.returns
returns c =
    rw (c.nothing_left-rest.ensures, c.nothing_known-known.ensures)
