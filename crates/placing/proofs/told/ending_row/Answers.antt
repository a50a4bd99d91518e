-- `placing::told::ending_row` meets its contract (rule 10).
use Rattle.placing.proofs.FoundLaws.{end_row, feed_row}
use Rattle.placing.proofs.ToldLaws.{feed_there}
use Rattle.placing.proofs.told.ending_row.Goals as goal

pub returns-then-text-end : goal.returns-then-text-end
returns-then-text-end c =
    rw c.told_at.ensures λ at most w. end_row w c.if-text-end.true

pub returns : goal.returns
returns c =
    rw c.told_at-2.ensures λ at most w. feed_row w (feed_there _ _ c.if-text-end.false c.requires.2 c.requires.3)
