-- `files::writer::write_file` meets its contract (refusal 1, refusal 2, refusal 5, refusal 8).
use Rattle.std.proofs.Common.{◌≤◌, ◌≡◌, sym, ◌∙◌, arith}
use Rattle.std.specs.Prelude.{Ok}
use Rattle.meaning.specs.Calls.{check_writing}
use Rattle.files.specs.WritingCalls.{writing_refused, file-holds, table-holds, few-lines, writing_done}
use Rattle.laws.specs.Asked.{asked}
use Rattle.files.proofs.writer.write_file.Goals as goal

pub returns-in_err-check_writing : goal.returns-in_err-check_writing
returns-in_err-check_writing c =
    let refused = writing_refused c.args.s c.args.table.now c.args.lines c.args.file.now _ (sym c.check_writing.ensures ∙ c.in_err-check_writing.was) in
    record { value = asked _ c.from_residual.ensures.1 ∙ refused.0; file_after = refused.1 }

pub write_fields-requires : goal.write_fields-requires
write_fields-requires c =
    (file-holds c.args.s c.args.table.now c.args.lines c.args.file.now (sym c.check_writing.ensures ∙ c.in_ok-check_writing.was), table-holds c.args.s c.args.table.now c.args.lines c.args.file.now (sym c.check_writing.ensures ∙ c.in_ok-check_writing.was))

pub overflow_mul-result : goal.overflow_mul-result
overflow_mul-result c =
    record { fits = omega (arith, (few-lines _ _ _ _ (sym c.check_writing.ensures ∙ c.in_ok-check_writing.was))) }

pub overflow_add-result : goal.overflow_add-result
overflow_add-result c =
    record { fits = omega (arith, (few-lines _ _ _ _ (sym c.check_writing.ensures ∙ c.in_ok-check_writing.was))) }

pub returns : goal.returns
returns c =
    let done = writing_done c.args.s c.args.table.now c.args.lines c.args.file.now (sym c.check_writing.ensures ∙ c.in_ok-check_writing.was) _ c.write_fields.ensures in
    record { value = done.0; file_after = done.1 }
