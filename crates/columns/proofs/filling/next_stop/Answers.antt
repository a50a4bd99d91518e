-- `columns::filling::next_stop` meets its contract (rule 4).
use Rattle.basis.specs.Choice.{pick}
use Rattle.basis.specs.Order.{tests}
use Rattle.widths.specs.TabStops.{next_stop}
use Rattle.columns.proofs.filling.next_stop.Goals as goal

pub returns-then-tab-eq0 : goal.returns-then-tab-eq0
unfolding next_stop pick
returns-then-tab-eq0 c =
    search tests

pub returns : goal.returns
unfolding next_stop pick
returns c =
    search tests
