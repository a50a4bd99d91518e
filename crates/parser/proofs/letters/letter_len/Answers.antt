-- `parser::letters::letter_len` meets its contract (rule 2).
use Rattle.std.proofs.Common.{sym, ◌∙◌}
use Rattle.parser.specs.LetterLaws.{letter-plain, letter-long}
use Rattle.parser.proofs.letters.letter_len.Goals as goal

pub returns-then-plain_at : goal.returns-then-plain_at
returns-then-plain_at c =
    letter-plain _ _ (sym c.plain_at.ensures ∙ c.if-plain_at.true)

pub returns-then-wide_at : goal.returns-then-wide_at
returns-then-wide_at c =
    letter-long _ _ _ (c.wide_at.ensures c.if-wide_at.true)
