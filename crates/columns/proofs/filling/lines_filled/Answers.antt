use Rattle.columns.specs.FillTurns.{fill_more, fill_done}
use Rattle.columns.proofs.filling.lines_filled.Goals as goal

pub loop-b-preserved : goal.loop-b-preserved
loop-b-preserved c =
    fill_more _ _ _ _ _ _ c.fill_byte-f.result c.loop-b.invariant c.loop-b-test.true c.fill_byte-f.ensures

pub returns : goal.returns
returns c =
    fill_done _ _ _ _ _ _ c.loop-b.invariant c.loop-b-test.false
