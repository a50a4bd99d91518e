use Rattle.std.proofs.Common.{arith}
use Rattle.utf8.specs.Ascii.{plain-none, plain-below, plain-on}
use Rattle.utf8.proofs.text.skip_blocks.Goals as goal

pub returns-then-text-block : goal.returns-then-text-block
returns-then-text-block c =
    plain-none _ _ (omega arith)

pub loop-at-init : goal.loop-at-init
loop-at-init c =
    (plain-none _ _ (omega arith), omega arith)

pub all_ascii-requires : goal.all_ascii-requires
all_ascii-requires c =
    (omega arith, omega arith)

pub returns-then-not-all_ascii : goal.returns-then-not-all_ascii
returns-then-not-all_ascii c =
    c.loop-at.invariant.0

pub loop-at-preserved : goal.loop-at-preserved
loop-at-preserved c =
    (plain-on _ _ _ _ c.loop-at.invariant.0 (plain-below _ _ _ (omega arith) (omega arith) (c.all_ascii.ensures (c.if-not-all_ascii.false))), omega arith)

pub returns : goal.returns
returns c =
    c.loop-at.invariant.0
