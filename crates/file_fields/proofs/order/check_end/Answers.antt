-- `files::order::check_end` meets its contract (refusal 9, refusal 11).
use Rattle.std.proofs.Common.{sym, ◌∙◌, arith, drop, length-drop}
use Rattle.file_fields.specs.Fields.{no_end, end_followed, end-last}
use Rattle.file_fields.proofs.order.check_end.Goals as goal

pub returns-then-not-is_field : goal.returns-then-not-is_field
returns-then-not-is_field c =
    no_end c.args.at (drop c.args.at c.args.file.now) (sym c.is_field.ensures ∙ c.if-not-is_field.true)

pub returns-then-behind-file : goal.returns-then-behind-file
returns-then-behind-file c =
    end_followed c.args.at (drop c.args.at c.args.file.now) (sym c.is_field.ensures ∙ c.if-not-is_field.false) (omega (arith, length-drop c.args.at c.args.file.now))

pub returns : goal.returns
returns c =
    end-last c.args.at (drop c.args.at c.args.file.now) (sym c.is_field.ensures ∙ c.if-not-is_field.false) (omega (arith, length-drop c.args.at c.args.file.now))
