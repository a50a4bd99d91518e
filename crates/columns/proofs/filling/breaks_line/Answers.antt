-- `columns::filling::breaks_line` meets its contract.
use Rattle.std.proofs.Common.{eqb}
use Rattle.widths.specs.LineParts.{breaks}
use Rattle.columns.specs.Tabs.{either}
use Rattle.columns.proofs.filling.breaks_line.Goals as goal

pub returns : goal.returns
unfolding breaks
returns c =
    either (eqb c.args.b 10) (eqb c.args.b 13)
