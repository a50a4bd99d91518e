-- `pairs::pair::long_space_at` meets its contract (rule 2).
use Rattle.std.proofs.Common.{sym, ◌∙◌, arith}
use Rattle.pairs.specs.PairLaws.{blank-long}
use Rattle.pairs.proofs.pair.long_space_at.Goals as goal

pub returns : goal.returns
returns c =
    λ e. blank-long _ _ (omega arith) (sym c.is_long_space.ensures ∙ e)
