-- `table::one_line::rest_stands` meets its contract (refusal 5).
use Rattle.look.proofs.Judging.{stands-none, stands-short, stands-tested}
use Rattle.look.proofs.one_line.rest_stands.Goals as goal

pub returns-then-end-count : goal.returns-then-end-count
returns-then-end-count c =
    stands-none _ _ _ _ _ c.if-end-count.true

pub returns-then-end-start : goal.returns-then-end-start
returns-then-end-start c =
    stands-short _ _ _ _ _ c.if-end-count.false c.if-end-start.true

pub returns : goal.returns
returns c =
    stands-tested _ _ _ _ _ c.if-end-count.false c.if-end-start.false
