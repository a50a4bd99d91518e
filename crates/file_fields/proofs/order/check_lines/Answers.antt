use Rattle.std.proofs.Common.{sym, ◌∙◌, arith}
use Rattle.file_fields.specs.Fields.{none_passed, line-there, one-passed, old-line, lines-over}
use Rattle.file_fields.proofs.order.check_lines.Goals as goal

pub loop-at-init : goal.loop-at-init
loop-at-init c =
    none_passed c.args.file.now c.requires

pub is_field-requires : goal.is_field-requires
is_field-requires c =
    (c.loop-at.invariant.inside, omega arith)

pub overflow_add-at : goal.overflow_add-at
overflow_add-at c =
    omega (arith, line-there c.args.file.now c.loop-at.at c.loop-at.invariant (sym c.is_field.ensures ∙ c.loop-at-test.true))

pub loop-at-smaller : goal.loop-at-smaller
loop-at-smaller c =
    omega (arith, line-there c.args.file.now c.loop-at.at c.loop-at.invariant (sym c.is_field.ensures ∙ c.loop-at-test.true))

pub loop-at-preserved : goal.loop-at-preserved
loop-at-preserved c =
    one-passed c.args.file.now c.loop-at.at c.loop-at.invariant (sym c.is_field.ensures ∙ c.loop-at-test.true)

pub is_field-requires-2 : goal.is_field-requires-2
is_field-requires-2 c =
    (c.loop-at.invariant.inside, omega arith)

pub returns-then-is_field : goal.returns-then-is_field
returns-then-is_field c =
    old-line c.args.file.now c.loop-at.at c.loop-at.invariant (sym c.is_field.ensures ∙ c.loop-at-test.false) (sym c.is_field-2.ensures ∙ c.if-is_field.true)

pub check_end-requires : goal.check_end-requires
check_end-requires c =
    c.loop-at.invariant.inside

pub returns : goal.returns
returns c =
    c.check_end.ensures ∙ lines-over c.args.file.now c.loop-at.at c.loop-at.invariant (sym c.is_field.ensures ∙ c.loop-at-test.false) (sym c.is_field-2.ensures ∙ c.if-is_field.false)
