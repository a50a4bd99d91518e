-- `month::widths_of` meets its contract.
use Rattle.month.specs.WidthFile.{read_of}
use Rattle.month.proofs.widths_of.Goals as goal

pub returns : goal.returns
returns g c =
    read_of _ _ _ _ c.parse_widths.auto.widths c.parse_widths.ensures.value c.parse_widths.ensures.held
