-- `columns::skipping::tab_skips` meets its contract.
use Rattle.std.proofs.Common.{arith}
use Rattle.columns.specs.Skipping.{left-skips, right-skips, centred_skips}
use Rattle.columns.proofs.skipping.tab_skips.Goals as goal

pub returns-then-s-eq0 : goal.returns-then-s-eq0
returns-then-s-eq0 c =
    left-skips c.args.s c.args.widest (omega (arith, c.if-s-eq0.true)) _ c.tab_step-step.ensures (omega arith)

pub returns-then-s-eq2 : goal.returns-then-s-eq2
returns-then-s-eq2 c =
    right-skips c.args.s c.args.widest (λ z. omega (arith, c.if-s-eq0.false)) (omega (arith, c.if-s-eq2.true)) _ c.tab_step-step.ensures (omega arith)

pub returns : goal.returns
returns c =
    centred_skips c.args.s c.args.widest (λ z. omega (arith, c.if-s-eq0.false)) (λ z. omega (arith, c.if-s-eq2.false))
