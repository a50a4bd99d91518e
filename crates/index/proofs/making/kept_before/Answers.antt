-- `index::making::kept_before` meets its contract.
use Rattle.std.proofs.Common.{arith}
use Rattle.index.proofs.Answering.{kept_top, kept-none}
use Rattle.index.proofs.making.kept_before.Goals as goal

pub returns-then-s-gt0 : goal.returns-then-s-gt0
returns-then-s-gt0 c =
    kept-none c.args.s c.args.first (λ e. omega arith)

pub returns : goal.returns
returns c =
    kept_top c.args.s c.args.first (omega arith)
