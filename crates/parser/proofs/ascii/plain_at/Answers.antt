-- `parser::ascii::plain_at` meets its contract (rule 2).
use Rattle.std.proofs.Common.{◌∙◌}
use Rattle.basis.specs.Choice.{pick}
use Rattle.basis.specs.Order.{tests}
use Rattle.parser.specs.Ascii.{plain_at}
use Rattle.parser.proofs.ascii.plain_at.Goals as goal

pub returns-then-at-text : goal.returns-then-at-text
unfolding plain_at pick
returns-then-at-text c =
    c.is_plain.ensures ∙ search tests

pub returns : goal.returns
unfolding plain_at pick
returns c =
    search tests
