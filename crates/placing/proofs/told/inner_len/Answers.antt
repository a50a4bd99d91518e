-- `placing::told::inner_len` meets its contract (rule 2).
use Rattle.std.proofs.lemmas.Option.{IfSome_then}
use Rattle.parser.specs.LetterLaws.{letter-long}
use Rattle.placing.proofs.told.inner_len.Goals as goal

pub returns-in-Some : goal.returns-in-Some
returns-in-Some c =
    record { glues = 0; spells = letter-long _ _ _ c.in-Some.ensures }

pub returns : goal.returns
returns c =
    IfSome_then c.glue_len.result c.glue_len.ensures (λ n g. record { glues = 1; spells = g })
