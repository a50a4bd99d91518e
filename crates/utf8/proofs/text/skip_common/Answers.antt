use Rattle.std.proofs.Common.{arith}
use Rattle.utf8.specs.Ascii.{Passed, pass-none, pass_on_lem}
use Rattle.utf8.proofs.text.skip_common.Goals as goal

pub loop-at-init : goal.loop-at-init
loop-at-init c =
    (pass-none _ _ (omega arith), omega arith)

pub skip_long-at-requires : goal.skip_long-at-requires
skip_long-at-requires c =
    c.skip_ascii-ascii.ensures.passed.inside

pub returns-then-at-ascii : goal.returns-then-at-ascii
returns-then-at-ascii c =
    (let turn_here : Passed c.args.text.now c.args.from c.skip_long-at.result = pass_on_lem _ _ _ _ (pass_on_lem _ _ _ _ c.loop-at.invariant.0 c.skip_ascii-ascii.ensures.passed) c.skip_long-at.ensures in turn_here)

pub loop-at-smaller : goal.loop-at-smaller
loop-at-smaller c =
    omega (arith, c.skip_ascii-ascii.ensures.passed.forward, c.skip_long-at.ensures.forward, c.skip_long-at.ensures.inside, c.if-at-ascii.false)

pub loop-at-preserved : goal.loop-at-preserved
loop-at-preserved c =
    let p = (let turn_here : Passed c.args.text.now c.args.from c.skip_long-at.result = pass_on_lem _ _ _ _ (pass_on_lem _ _ _ _ c.loop-at.invariant.0 c.skip_ascii-ascii.ensures.passed) c.skip_long-at.ensures in turn_here) in (p, p.inside)
