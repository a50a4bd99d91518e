-- `columns::parts::widest_part` meets its contract. The invariant: what was found so far and the bytes that are left decide.
use Rattle.columns.specs.PartBytes.{WideTo}
use Rattle.columns.proofs.parts.widest_part.Given as goal

abbrev pub invariant-loop-b : goal.invariant-loop-b
invariant-loop-b l = WideTo l.gauge.glyph l.gauge.tab l.text l.b-index l.at l.widest
