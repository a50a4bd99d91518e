-- `month::width_lines::parse_width` meets its contract (refusal 13).
use Rattle.month.specs.WidthFile.{width-long, width-short}
use Rattle.month.proofs.width_lines.parse_width.Goals as goal

pub returns-then-line-gt-DIGITS : goal.returns-then-line-gt-DIGITS
returns-then-line-gt-DIGITS c =
    width-long _ c.if-line-gt-DIGITS.true

pub returns : goal.returns
returns c =
    width-short _ c.if-line-gt-DIGITS.false _ c.decimal_in.ensures
