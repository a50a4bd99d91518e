-- `table::well_formed::last_reach` meets its contract (refusal 5).
use Rattle.look.proofs.LineByLine.{reach-none, reach-last}
use Rattle.look.proofs.well_formed.last_reach.Goals as goal

pub returns-then-lines-eq0 : goal.returns-then-lines-eq0
returns-then-lines-eq0 c =
    reach-none c.args.table.now c.args.lines c.if-lines-eq0.true

pub returns : goal.returns
returns c =
    reach-last c.args.table.now c.args.lines c.if-lines-eq0.false
