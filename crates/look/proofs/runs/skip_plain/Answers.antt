-- `table::runs::skip_plain` meets its contract (refusal 5).
use Rattle.look.proofs.PlainTurns.{lines-wider, lines_join}
use Rattle.look.proofs.runs.skip_plain.Goals as goal

pub returns : goal.returns
returns c =
    lines_join _ _ _ _ _ c.skip_runs-at.ensures (lines-wider _ _ _ _ _ c.block_end.ensures c.skip_singly.ensures)
