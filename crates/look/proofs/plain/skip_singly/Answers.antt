use Rattle.look.proofs.PlainTurns.{lines_join, lines-one}
use Rattle.look.proofs.plain.skip_singly.Goals as goal

pub loop-at-preserved : goal.loop-at-preserved
loop-at-preserved c =
    lines_join _ _ _ _ _ c.loop-at.invariant (lines-one _ _ _ c.loop-at-test.true (c.line_is_plain.ensures (c.if-not-line_is_plain.false)))
