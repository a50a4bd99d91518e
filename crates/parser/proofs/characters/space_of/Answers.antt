-- `parser::characters::space_of` meets its contract (rule 1, rule 2).
use Rattle.basis.specs.Choice.{pick}
use Rattle.basis.specs.Order.{tests}
use Rattle.parser.specs.Scanning.{space_of}
use Rattle.parser.proofs.characters.space_of.Goals as goal

pub returns-then-c-eq8203 : goal.returns-then-c-eq8203
unfolding space_of pick
returns-then-c-eq8203 c =
    search tests

pub returns-else-c-eq8203 : goal.returns-else-c-eq8203
unfolding space_of pick
returns-else-c-eq8203 c =
    search tests
