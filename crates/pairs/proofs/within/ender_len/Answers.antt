-- `pairs::within::ender_len` meets its contract (rule 2).
use Rattle.std.proofs.Common.{sym, ◌∙◌}
use Rattle.parser.specs.LetterLaws.{ends-ender}
use Rattle.pairs.proofs.within.ender_len.Goals as goal

pub returns-then-ends_at : goal.returns-then-ends_at
returns-then-ends_at c =
    ends-ender _ _ (sym c.ends_at.ensures ∙ c.if-ends_at.true)
