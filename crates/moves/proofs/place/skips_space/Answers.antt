-- `moves::place::skips_space` meets its contract (rule 8).
use Rattle.meaning.specs.LineIter.{skips}
use Rattle.moves.proofs.place.skips_space.Goals as goal

pub returns-then-p : goal.returns-then-p
unfolding skips
returns-then-p c =
    rw c.if-p.true

pub returns-else-p : goal.returns-else-p
unfolding skips
returns-else-p c =
    rw c.if-p.false
