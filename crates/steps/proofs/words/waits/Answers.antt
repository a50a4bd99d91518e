-- `steps::words::waits` meets its contract (rule 8).
use Rattle.std.proofs.Common.{ap, ◌&&◌}
use Rattle.meaning.specs.LineIter.{wrap_on}
use Rattle.steps.proofs.words.waits.Goals as goal

pub returns : goal.returns
returns c =
    ap (wrap_on c.args.s &&◌) c.has_moved.ensures
