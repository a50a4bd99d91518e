-- `columns::parts::place_after` meets its contract (rule 4).
use Rattle.std.proofs.Common.{sym, ◌∙◌, arith}
use Rattle.columns.specs.PartBytes.{tab-past, other_past, part-ends, part-goes}
use Rattle.columns.proofs.parts.place_after.Goals as goal

pub returns-then-breaks_line : goal.returns-then-breaks_line
returns-then-breaks_line c =
    part-ends c.args.gauge.glyph c.args.gauge.tab c.args.at _ _ (sym c.breaks_line.ensures ∙ c.if-breaks_line.true) (omega arith)

pub returns-then-b-eq9 : goal.returns-then-b-eq9
returns-then-b-eq9 c =
    part-goes c.args.gauge.glyph c.args.gauge.tab c.args.at _ _ (sym c.breaks_line.ensures ∙ c.if-breaks_line.false)
    (tab-past c.args.gauge.glyph c.args.gauge.tab c.args.at _ (omega (arith, c.if-b-eq9.true)) _ (omega (arith, c.max.ensures, c.next_stop-stop.ensures)))

pub returns : goal.returns
returns c =
    part-goes c.args.gauge.glyph c.args.gauge.tab c.args.at _ _ (sym c.breaks_line.ensures ∙ c.if-breaks_line.false)
    (other_past c.args.gauge.glyph c.args.gauge.tab c.args.at _ (λ e. omega (arith, c.if-b-eq9.false)))
