use Rattle.look.proofs.PlainTurns.{lines_join}
use Rattle.look.proofs.runs.skip_runs.Goals as goal

pub loop-at-preserved : goal.loop-at-preserved
loop-at-preserved c =
    lines_join _ _ _ _ _ c.loop-at.invariant (lines_join _ _ _ _ _ c.skip_blocks-to.ensures c.skip_in_step-at.ensures)
