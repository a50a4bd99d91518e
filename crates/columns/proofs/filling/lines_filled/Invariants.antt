-- `columns::filling::lines_filled` meets its contract. The invariant: the bytes that are left fill from here what all fill from the front.
use Rattle.columns.specs.FillTurns.{FilledTo}
use Rattle.columns.proofs.filling.lines_filled.Given as goal

abbrev pub invariant-loop-b : goal.invariant-loop-b
invariant-loop-b l = FilledTo l.gauge.glyph l.gauge.tab l.gauge.width l.text l.b-index l.f
