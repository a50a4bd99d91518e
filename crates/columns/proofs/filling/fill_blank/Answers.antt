-- `columns::filling::fill_blank` meets its contract (rule 4, rule 8).
use Rattle.std.proofs.Common.{◌∙◌}
use Rattle.columns.specs.FillTurns.{on-space, on_tab_lem, on_other}
use Rattle.columns.proofs.filling.fill_blank.Goals as goal

pub returns-then-b-eq32 : goal.returns-then-b-eq32
returns-then-b-eq32 c =
    c.fill_to.ensures ∙ on-space c.args.gauge.glyph c.args.gauge.tab c.args.gauge.width c.args.f c.args.b c.if-b-eq32.true

pub returns-then-b-eq9 : goal.returns-then-b-eq9
returns-then-b-eq9 c =
    c.fill_to-then-b-eq9.ensures ∙ on_tab_lem c.args.gauge.glyph c.args.gauge.tab c.args.gauge.width c.args.f c.args.b c.if-b-eq32.false c.if-b-eq9.true c.next_stop-stop.result c.next_stop-stop.ensures

pub returns : goal.returns
returns c =
    on_other c.args.gauge.glyph c.args.gauge.tab c.args.gauge.width c.args.f c.args.b c.if-b-eq32.false c.if-b-eq9.false c.fill_other.result c.fill_other.ensures
