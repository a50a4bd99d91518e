-- `placing::plain::left_of` meets its contract (rule 6).
use Rattle.std.proofs.Common.{eq-eqb, ne_eqb}
use Rattle.basis.specs.Choice.{pick}
use Rattle.placing.specs.Plain.{left_of}
use Rattle.placing.proofs.plain.left_of.Goals as goal

pub returns-then-alignment-eq0 : goal.returns-then-alignment-eq0
unfolding left_of pick
returns-then-alignment-eq0 c =
    rw (eq-eqb _ 0 c.if-alignment-eq0.true)

pub returns-then-alignment-eq1 : goal.returns-then-alignment-eq1
unfolding left_of pick
returns-then-alignment-eq1 c =
    rw (ne_eqb _ 0 c.if-alignment-eq0.false, eq-eqb _ 1 c.if-alignment-eq1.true)

pub returns : goal.returns
unfolding left_of pick
returns c =
    rw (ne_eqb _ 0 c.if-alignment-eq0.false, ne_eqb _ 1 c.if-alignment-eq1.false)
