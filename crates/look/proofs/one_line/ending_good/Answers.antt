-- `table::one_line::ending_good` meets its contract (refusal 5).
use Rattle.look.specs.OneLine.{ending_at}
use Rattle.look.proofs.one_line.ending_good.Goals as goal

pub returns-then-last : goal.returns-then-last
unfolding ending_at
returns-then-last c =
    rw c.if-last.true

pub returns : goal.returns
unfolding ending_at
returns c =
    rw c.if-last.false
