use Rattle.std.proofs.Common.{◌∙◌, arith}
use Rattle.clues.specs.Feeds.{skip-free}
use Rattle.clues.proofs.feeds.skip_blocks.Goals as goal

pub loop-at-preserved : goal.loop-at-preserved
loop-at-preserved c =
    (omega arith, skip-free c.args.s.now c.args.end c.requires.1 c.loop-at.at c.args.block (c.no_feed.ensures (c.if-not-no_feed.false)) (omega arith) ∙ c.loop-at.invariant.1)
