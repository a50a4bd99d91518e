-- `index::making::check_indexing` meets its contract (refusal 1, refusal 2, refusal 5, refusal 8).
use Rattle.std.proofs.Common.{sym, ◌∙◌, arith}
use Rattle.laws.specs.Asked.{asked}
use Rattle.index.proofs.Answering.{indexing_bad, indexing_small, indexing_good}
use Rattle.index.proofs.making.check_indexing.Goals as goal

pub returns-in_err-check_height : goal.returns-in_err-check_height
returns-in_err-check_height c =
    asked _ c.from_residual.ensures.1
    ∙ indexing_bad c.args.s c.args.table.now c.args.lines c.args.room _ (sym c.check_height.ensures ∙ c.in_err-check_height.was)

pub returns-then-room-lines : goal.returns-then-room-lines
returns-then-room-lines c =
    indexing_small c.args.s c.args.table.now c.args.lines c.args.room (sym c.check_height.ensures ∙ c.in_ok-check_height.was) (omega arith)

pub returns : goal.returns
returns c =
    indexing_good c.args.s c.args.table.now c.args.lines c.args.room (sym c.check_height.ensures ∙ c.in_ok-check_height.was) (omega arith)
