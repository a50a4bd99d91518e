-- `columns::filling::fill_word` meets its contract (rule 8).
use Rattle.std.proofs.Common.{arith}
use Rattle.columns.specs.FillTurns.{word-here, word_next}
use Rattle.columns.proofs.filling.fill_word.Goals as goal

pub returns-then-to-gauge : goal.returns-then-to-gauge
returns-then-to-gauge c =
    word-here c.args.gauge.glyph c.args.gauge.tab c.args.gauge.width c.args.f (omega (arith, c.if-to-gauge.true)) c.grown_part.result c.grown_part.ensures

pub returns : goal.returns
returns c =
    word_next c.args.gauge.glyph c.args.gauge.tab c.args.gauge.width c.args.f (omega (arith, c.if-to-gauge.false)) c.min.result (rw c.unwrap_or.ensures at c.min.ensures)
