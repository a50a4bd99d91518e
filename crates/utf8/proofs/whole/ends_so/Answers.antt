-- `utf8::whole::ends_so` meets its contract (refusal 4).
use Rattle.std.proofs.Common.{◌&&◌}
use Rattle.utf8.proofs.whole.ends_so.Goals as goal

pub returns : goal.returns
returns c =
    λ i. c.follows.ensures i && c.follows-2.ensures i
