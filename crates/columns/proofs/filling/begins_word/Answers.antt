-- `columns::filling::begins_word` meets its contract.
use Rattle.basis.specs.Choice.{pick}
use Rattle.basis.specs.Order.{tests}
use Rattle.columns.specs.LeadBytes.{leads}
use Rattle.columns.proofs.filling.begins_word.Goals as goal

pub returns-then-b-lt33 : goal.returns-then-b-lt33
unfolding leads pick
returns-then-b-lt33 c =
    search tests

pub returns-then-b-lt128 : goal.returns-then-b-lt128
unfolding leads pick
returns-then-b-lt128 c =
    search tests

pub returns-then-b-lt195 : goal.returns-then-b-lt195
unfolding leads pick
returns-then-b-lt195 c =
    search tests

pub returns-then-b-lt225 : goal.returns-then-b-lt225
unfolding leads pick
returns-then-b-lt225 c =
    search tests

pub returns : goal.returns
unfolding leads pick
returns c =
    search tests
