-- `prints::tokens::tab_kind` meets its contract (rule 8, rule 9, rule 13).
use Rattle.basis.specs.Choice.{pick}
use Rattle.prints.proofs.tokens.tab_kind.Goals as goal

pub returns-then-fits : goal.returns-then-fits
unfolding pick
returns-then-fits c =
    rw c.if-fits.true

pub returns : goal.returns
unfolding pick
returns c =
    rw c.if-fits.false
