-- `edits::meeting::meets_line` meets its contract (laying again).
use Rattle.std.proofs.Common.{◌&&◌, leb, eqb}
use Rattle.meaning.specs.Edit.{meets}
use Rattle.edits.proofs.meeting.meets_line.Goals as goal

pub returns : goal.returns
unfolding meets
returns c =
    λ i. leb c.args.edit.to.0 c.args.e.start.0
    && eqb (c.moved_to-from.ensures i) c.args.start.0
    && eqb (c.moved_end-end.ensures i) c.args.rest.end.0
    && eqb c.args.e.rest.count.0 c.args.rest.count.0
