use Rattle.std.proofs.Common.{arith}
use Rattle.look.proofs.PlainTurns.{lines_join, lines_block}
use Rattle.look.proofs.plain.skip_blocks.Goals as goal

pub loop-at-preserved : goal.loop-at-preserved
loop-at-preserved c =
    let breaks = c.all_break.ensures (c.if-not-all_break.false) in
    let follow = c.all_following-told.ensures c.if-told-ne0.false in
    (lines_join _ _ _ _ _ c.loop-at.invariant.0 (lines_block _ _ _ (omega (arith, c.loop-at-test.true)) (λ i h. record { follows = follow i h; end = breaks i h })), omega (arith, c.loop-at.invariant.1, c.last_block-stop.ensures))
