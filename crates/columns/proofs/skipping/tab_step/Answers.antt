-- `columns::skipping::tab_step` meets its contract.
use Rattle.std.proofs.Common.{arith}
use Rattle.columns.specs.Skipping.{tab-whole, tab_uneven}
use Rattle.columns.proofs.skipping.tab_step.Goals as goal

pub returns-then-s-glyph-eq0 : goal.returns-then-s-glyph-eq0
returns-then-s-glyph-eq0 c =
    tab-whole _ (omega (arith, c.if-s-glyph-eq0.true))

pub returns : goal.returns
returns c =
    tab_uneven _ (λ e. omega (arith, c.if-s-glyph-eq0.false))
