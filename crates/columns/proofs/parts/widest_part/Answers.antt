use Rattle.std.proofs.Common.{arith}
use Rattle.columns.specs.PartBytes.{wide-start, wide-next, wide-done}
use Rattle.columns.proofs.parts.widest_part.Goals as goal

pub loop-b-init : goal.loop-b-init
loop-b-init c =
    wide-start _ _ _

pub loop-b-preserved : goal.loop-b-preserved
loop-b-preserved c =
    wide-next _ _ _ _ _ _ c.loop-b.invariant c.args.gauge.fine.0 c.args.gauge.fine.1 c.loop-b-test.true _ _ c.place_after-at.ensures c.max-widest.ensures

pub returns : goal.returns
returns c =
    let done = wide-done _ _ _ _ _ _ c.loop-b.invariant c.loop-b-test.false in
    (done.0, omega (arith, done.1, c.requires))
