-- `month::block::add_long` meets its contract (refusal 3).
use Rattle.std.proofs.Common.{refl}
use Rattle.month.specs.Blocks.{long-added}
use Rattle.month.proofs.block.add_long.Goals as goal

pub returns : goal.returns
returns c =
    long-added _ _ _ _ c.requires.counts _ _ refl _ c.add_text.ensures.added
