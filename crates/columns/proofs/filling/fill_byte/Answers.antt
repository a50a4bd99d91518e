-- `columns::filling::fill_byte` meets its contract (rule 8).
use Rattle.std.proofs.Common.{sym, ◌∙◌}
use Rattle.columns.specs.FillTurns.{by_word, by_break, by-blank, by-none}
use Rattle.columns.proofs.filling.fill_byte.Goals as goal

pub returns-then-begins_word : goal.returns-then-begins_word
returns-then-begins_word c =
    by_word c.args.gauge.glyph c.args.gauge.tab c.args.gauge.width c.args.f c.args.b (sym c.begins_word.ensures ∙ c.if-begins_word.true) c.fill_word.result c.fill_word.ensures

pub returns-then-breaks_line : goal.returns-then-breaks_line
returns-then-breaks_line c =
    by_break c.args.gauge.glyph c.args.gauge.tab c.args.gauge.width c.args.f c.args.b (sym c.begins_word.ensures ∙ c.if-begins_word.false) (sym c.breaks_line.ensures ∙ c.if-breaks_line.true)

pub returns-then-f : goal.returns-then-f
returns-then-f c =
    by-blank c.args.gauge.glyph c.args.gauge.tab c.args.gauge.width c.args.f c.args.b (sym c.begins_word.ensures ∙ c.if-begins_word.false)
    (sym c.breaks_line.ensures ∙ c.if-breaks_line.false) c.if-f.true c.fill_blank.result c.fill_blank.ensures

pub returns : goal.returns
returns c =
    by-none c.args.gauge.glyph c.args.gauge.tab c.args.gauge.width c.args.f c.args.b (sym c.begins_word.ensures ∙ c.if-begins_word.false)
    (sym c.breaks_line.ensures ∙ c.if-breaks_line.false) c.if-f.false c.fill_other.result c.fill_other.ensures
