-- `parser::letters::first_len` meets its contract (rule 2).
use Rattle.std.proofs.Common.{sym, ◌∙◌}
use Rattle.std.proofs.lemmas.Option.{IfSome_then}
use Rattle.parser.specs.LetterLaws.{letter-plain, letter-long}
use Rattle.parser.proofs.letters.first_len.Goals as goal

pub returns-then-plain_at : goal.returns-then-plain_at
returns-then-plain_at c =
    letter-plain _ _ (sym c.plain_at.ensures ∙ c.if-plain_at.true)

pub returns : goal.returns
returns c =
    IfSome_then _ c.long_len.ensures (letter-long _ _)
