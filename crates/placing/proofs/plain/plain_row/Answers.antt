-- `placing::plain::plain_row` meets its contract (rule 8, rule 10).
use Rattle.std.proofs.lemmas.Option.{IfSome_then}
use Rattle.placing.proofs.PlainLaws.{plain_row}
use Rattle.placing.proofs.plain.plain_row.Goals as goal

pub returns : goal.returns
returns c =
    IfSome_then c.plain_line.result c.plain_line.ensures λ x line. plain_row _ _ _ _ _ line
