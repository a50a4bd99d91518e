-- `parser::marks::mark_at` meets its contract (rule 2).
use Rattle.std.proofs.Common.{sym, ◌∙◌, arith}
use Rattle.parser.specs.MarkLaws.{tab-here, hyphen-here, zero-here}
use Rattle.parser.proofs.marks.mark_at.Goals as goal

pub returns-then-a-eq9 : goal.returns-then-a-eq9
returns-then-a-eq9 c =
    tab-here _ _ (omega arith) (omega arith)

pub returns-then-b : goal.returns-then-b
returns-then-b c =
    hyphen-here _ _ (omega arith) (omega arith) (omega arith)

pub returns-then-is_zero_width : goal.returns-then-is_zero_width
returns-then-is_zero_width c =
    zero-here _ _ (omega arith) (sym c.is_zero_width.ensures ∙ c.if-is_zero_width.true)
