-- `rows::found::reached_at` meets its contract.
use Rattle.rows.proofs.found.reached_at.Goals as goal

pub returns : goal.returns
returns c =
    rw c.plain_stand-stand.ensures
