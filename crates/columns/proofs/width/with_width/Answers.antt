-- `columns::width::with_width` meets its contract.
use Rattle.std.proofs.Common.{rules}
use Rattle.meaning.specs.Columns.{with_width}
use Rattle.columns.proofs.width.with_width.Goals as goal

pub returns : goal.returns
unfolding with_width
returns c =
    search rules
