-- `columns::skipping::asked_room` meets its contract.
use Rattle.std.proofs.Common.{arith}
use Rattle.columns.specs.Skipping.{asked_centred, asked_otherwise}
use Rattle.columns.proofs.skipping.asked_room.Goals as goal

pub returns-then-s-eq1 : goal.returns-then-s-eq1
returns-then-s-eq1 c =
    asked_centred _ c.args.widest _ (omega (arith, c.if-s-eq1.true)) (omega arith)

pub returns : goal.returns
returns c =
    asked_otherwise _ _ (λ e. omega (arith, c.if-s-eq1.false))
