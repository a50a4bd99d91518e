-- `edits::meeting::stands_before` meets its contract (laying again).
use Rattle.std.proofs.Common.{◌||◌, ltb}
use Rattle.edits.specs.Pointer.{stands_before}
use Rattle.edits.proofs.meeting.stands_before.Goals as goal

pub returns : goal.returns
unfolding stands_before
returns c =
    λ i. ltb c.args.x c.args.edit.to.0 || ltb (c.moved_to-from.ensures i) c.args.start.0
