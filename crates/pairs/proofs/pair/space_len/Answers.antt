-- `pairs::pair::space_len` meets its contract (rule 2).
use Rattle.std.proofs.Common.{sym, ◌∙◌}
use Rattle.pairs.specs.PairLaws.{blank-space}
use Rattle.pairs.proofs.pair.space_len.Goals as goal

pub returns-then-space_at : goal.returns-then-space_at
returns-then-space_at c =
    blank-space _ _ (sym c.space_at.ensures ∙ c.if-space_at.true)
