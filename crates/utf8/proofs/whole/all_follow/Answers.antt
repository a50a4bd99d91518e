use Rattle.utf8.specs.Whole.{follows-tested}
use Rattle.utf8.proofs.whole.all_follow.Goals as goal

pub loop-i-preserved : goal.loop-i-preserved
loop-i-preserved c =
    follows-tested c.args.text.now c.args.from c.loop-i.i c.loop-i.all _ c.loop-i.invariant c.follows-all.ensures
