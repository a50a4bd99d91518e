use Rattle.std.proofs.Common.{arith}
use Rattle.look.proofs.PlainTurns.{lines_join, lines_block}
use Rattle.look.proofs.in_step.pass_blocks.Goals as goal

pub loop-at-preserved : goal.loop-at-preserved
loop-at-preserved c =
    let breaks = c.all_break.ensures (c.if-not-all_break.false) in
    let steps = c.all_in_step-told.ensures c.if-told-ne0.false in
    lines_join _ _ _ _ _ c.loop-at.invariant
    (lines_block _ _ _ (omega (arith, c.loop-at-test.true)) (λ i h. record { step = steps i h; end = breaks i h }))
