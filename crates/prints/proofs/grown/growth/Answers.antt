-- `prints::grown::growth` meets its contract (rule 10, rule 13).
use Rattle.std.proofs.Common.{sym, ap}
use Rattle.prints.specs.TokenDrawn.{grown_by}
use Rattle.prints.proofs.RunEvents.{go-grows, stop-grows}
use Rattle.prints.proofs.grown.growth.Goals as goal

pub returns-in-Go : goal.returns-in-Go
unfolding grown_by
returns-in-Go c =
    ap (grown_by c.args.m) (sym c.in-Go.is)

pub returns-in-Stop : goal.returns-in-Stop
unfolding grown_by
returns-in-Stop c =
    ap (grown_by c.args.m) (sym c.in-Stop.is)
