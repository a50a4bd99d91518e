-- `parser::ascii::space_at` meets its contract (rule 2).
use Rattle.basis.specs.Choice.{pick}
use Rattle.basis.specs.Order.{tests}
use Rattle.parser.specs.Ascii.{space_at}
use Rattle.parser.proofs.ascii.space_at.Goals as goal

pub returns-then-at-text : goal.returns-then-at-text
unfolding space_at pick
returns-then-at-text c =
    search tests

pub returns : goal.returns
unfolding space_at pick
returns c =
    search tests
