-- `month::block::end_long` meets its contract (refusal 3).
use Rattle.month.specs.Blocks.{long-still, long-ended}
use Rattle.month.proofs.block.end_long.Goals as goal

pub returns-then-end-stop : goal.returns-then-end-stop
returns-then-end-stop c =
    long-still _ _ _ _ _ _ _ c.requires.end_in_bounds c.requires.clues_lt_most_clues c.find_feed-stop.ensures c.requires.counts c.if-end-stop.true

pub returns : goal.returns
returns c =
    long-ended _ _ _ _ _ _ _ c.requires.end_in_bounds c.requires.clues_lt_most_clues c.find_feed-stop.ensures _ _ c.add_long-n.ensures c.if-end-stop.false
