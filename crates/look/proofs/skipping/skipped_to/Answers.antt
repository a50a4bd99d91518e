-- `table::skipping::skipped_to` meets its contract (refusal 5).
use Rattle.std.proofs.Common.{sym, le-ltb, lt-ltb}
use Rattle.basis.specs.Choice.{pick_true, pick-false}
use Rattle.look.proofs.skipping.skipped_to.Goals as goal

pub returns-then-bytes-start : goal.returns-then-bytes-start
returns-then-bytes-start c =
    sym (pick_true _ _ _ (lt-ltb _ _ c.if-bytes-start.true))

pub returns : goal.returns
returns c =
    sym (pick-false _ _ _ (le-ltb _ _ c.if-bytes-start.false))
