-- `files::order::check_fields` meets its contract (refusal 9, refusal 11).
use Rattle.std.proofs.Common.{sym, ◌∙◌, arith}
use Rattle.file_fields.specs.Fields.{bad_settings, settings-inside, bad_length, length-inside, lines_decide}
use Rattle.file_fields.proofs.order.check_fields.Goals as goal

pub returns-then-not-is_field : goal.returns-then-not-is_field
returns-then-not-is_field c =
    bad_settings c.args.file.now (sym c.is_field.ensures ∙ c.if-not-is_field.true)

pub is_field-requires-2 : goal.is_field-requires-2
is_field-requires-2 c =
    (settings-inside c.args.file.now (sym c.is_field.ensures ∙ c.if-not-is_field.false), omega arith)

pub returns-then-not-is_field-2 : goal.returns-then-not-is_field-2
returns-then-not-is_field-2 c =
    bad_length c.args.file.now (sym c.is_field.ensures ∙ c.if-not-is_field.false) (sym c.is_field-2.ensures ∙ c.if-not-is_field-2.true)

pub check_lines-requires : goal.check_lines-requires
check_lines-requires c =
    length-inside c.args.file.now (sym c.is_field.ensures ∙ c.if-not-is_field.false) (sym c.is_field-2.ensures ∙ c.if-not-is_field-2.false)

pub returns : goal.returns
returns c =
    c.check_lines.ensures ∙ lines_decide c.args.file.now (sym c.is_field.ensures ∙ c.if-not-is_field.false) (sym c.is_field-2.ensures ∙ c.if-not-is_field-2.false)
