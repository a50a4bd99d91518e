use Rattle.std.proofs.Common.{◌+◌, arith}
use mathlib.Core.Bool.{false≢true}
use Rattle.utf8.specs.Whole.{follows-none, follows_on}
use Rattle.utf8.proofs.whole.blocks_follow.Goals as goal

pub loop-at-init : goal.loop-at-init
loop-at-init c =
    (follows-none c.args.text.now c.args.from, omega arith)

pub all_follow-requires : goal.all_follow-requires
all_follow-requires c =
    (omega arith, omega arith)

pub returns-then-not-all_follow : goal.returns-then-not-all_follow
returns-then-not-all_follow c =
    λ e. absurd (false≢true e)

pub loop-at-preserved : goal.loop-at-preserved
loop-at-preserved c =
    (follows_on c.args.text.now c.args.from c.loop-at.at c.loop-at.at (c.loop-at.at + 16) (omega arith) c.loop-at.invariant.0 (c.all_follow.ensures (c.if-not-all_follow.false)), omega arith)

pub all_follow-requires-2 : goal.all_follow-requires-2
all_follow-requires-2 c =
    (omega arith, omega arith)

pub returns : goal.returns
returns c =
    λ e. follows_on c.args.text.now c.args.from c.loop-at.at c.args.last (c.args.last + 16) (omega (arith, c.loop-at-test.false)) c.loop-at.invariant.0 (c.all_follow-2.ensures e)
