use Rattle.std.proofs.Common.{◌≡◌, arith, ◌∙◌, rules}
use Rattle.clues.specs.Feeds.{feed_here, feed_later, no_feed}
use Rattle.clues.proofs.feeds.find_feed.Goals as goal

pub returns-then-s-i-eq10 : goal.returns-then-s-i-eq10
returns-then-s-i-eq10 c =
    feed_here c.args.s.now c.args.end c.requires.1 c.loop-i.i (search rules) c.if-s-i-eq10.true ∙ c.loop-i.invariant

pub loop-i-preserved : goal.loop-i-preserved
loop-i-preserved c =
    feed_later c.args.s.now c.args.end c.requires.1 c.loop-i.i (search rules) c.if-s-i-eq10.false ∙ c.loop-i.invariant

pub returns : goal.returns
returns c =
    let e : c.args.end ≡ c.loop-i.i = omega (arith, c.skip_blocks-small.ensures.0) in
    e ∙ no_feed c.args.s.now c.args.end c.requires.1 c.loop-i.i c.loop-i-test.false ∙ c.loop-i.invariant
