-- `table::well_formed::text_length` meets its contract (refusal 5).
use Rattle.std.proofs.Common.{arith}
use Rattle.meaning.specs.Table.{entries_in}
use Rattle.look.proofs.LineByLine.{text-is}
use Rattle.look.proofs.well_formed.text_length.Goals as goal

pub returns : goal.returns
returns c =
    omega (arith, text-is (entries_in c.args.lines c.args.table.now) c.last_reach-reach.result.0 c.last_reach-reach.ensures, c.saturating_sub.ensures)
