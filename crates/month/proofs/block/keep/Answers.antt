-- `month::block::keep` meets its contract.
use Rattle.month.specs.Blocks.{kept-held}
use Rattle.month.proofs.block.keep.Goals as goal

pub returns : goal.returns
returns c =
    kept-held _ _ _ _ c.requires.at_le_end c.requires.end_in_bounds c.if-end-at.false _ _ c.to_front.ensures.value c.to_front.ensures.buffer_after c.to_front.auto.buffer
