-- `files::reader::check_reading` meets its contract (refusal 1, refusal 2, refusal 3, refusal 5, refusal 8, refusal 9, refusal 11, refusal 12).
use Rattle.std.proofs.Common.{sym, ◌∙◌}
use Rattle.files.specs.ReadingCalls.{fields_refused, contents_decide}
use Rattle.laws.specs.Asked.{asked}
use Rattle.files.proofs.reader.check_reading.Goals as goal

pub returns-in_err-check_fields : goal.returns-in_err-check_fields
returns-in_err-check_fields c =
    asked _ c.from_residual.ensures.1 ∙ fields_refused c.args.file.now c.args.settings.now c.args.table.now _ (sym c.check_fields.ensures ∙ c.in_err-check_fields.was)

pub check_contents-requires : goal.check_contents-requires
check_contents-requires c =
    sym c.check_fields.ensures ∙ c.in_ok-check_fields.was

pub returns : goal.returns
returns c =
    c.check_contents.ensures ∙ contents_decide c.args.file.now c.args.settings.now c.args.table.now (sym c.check_fields.ensures ∙ c.in_ok-check_fields.was)
