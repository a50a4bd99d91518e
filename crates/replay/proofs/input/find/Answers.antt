use Rattle.std.proofs.Common.{sym, ◌∙◌, rules}
use Rattle.replay.proofs.LineLaws.{feed_here, feed_later, no_feed}
use Rattle.replay.proofs.input.find.Goals as goal

pub returns-then-s-i-eq10 : goal.returns-then-s-i-eq10
returns-then-s-i-eq10 c =
    sym (c.loop-i.invariant ∙ feed_here c.args.s.now c.args.end c.requires c.loop-i.i (search rules) c.if-s-i-eq10.true)

pub loop-i-preserved : goal.loop-i-preserved
loop-i-preserved c =
    c.loop-i.invariant ∙ feed_later c.args.s.now c.args.end c.requires c.loop-i.i (search rules) c.if-s-i-eq10.false

pub returns : goal.returns
returns c =
    sym (c.loop-i.invariant ∙ no_feed c.args.s.now c.args.end c.requires c.loop-i.i c.loop-i-test.false)
