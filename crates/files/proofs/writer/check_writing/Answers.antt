-- `files::writer::check_writing` meets its contract (refusal 1, refusal 2, refusal 5, refusal 8).
use Rattle.std.proofs.Common.{◌≤◌, ◌≡◌, sym, ◌∙◌, arith}
use Rattle.std.specs.Prelude.{Ok}
use Rattle.meaning.specs.Checks.{check_settings}
use Rattle.meaning.specs.WellFormed.{check_table}
use Rattle.look.specs.GoodTable.{table-count}
use Rattle.files.specs.WritingCalls.{settings-refused, table-refused, room_decides}
use Rattle.laws.specs.Asked.{asked}
use Rattle.files.proofs.writer.check_writing.Goals as goal

pub returns-in_err-check_settings : goal.returns-in_err-check_settings
returns-in_err-check_settings c =
    asked _ c.from_residual.ensures.1 ∙ settings-refused c.args.s c.args.table.now c.args.lines c.args.file.now _ (sym c.check_settings.ensures ∙ c.in_err-check_settings.was)

pub returns-in_err-check_table : goal.returns-in_err-check_table
returns-in_err-check_table c =
    asked _ c.from_residual-in_err-check_table.ensures.1 ∙ table-refused c.args.s c.args.table.now c.args.lines c.args.file.now (sym c.check_settings.ensures ∙ c.in_ok-check_settings.was) _ (sym c.check_table.ensures ∙ c.in_err-check_table.was)

pub overflow_mul-lines : goal.overflow_mul-lines
overflow_mul-lines c =
    record { fits = omega (arith, (table-count _ _ (sym c.check_table.ensures ∙ c.in_ok-check_table.was))) }

pub overflow_add-lines : goal.overflow_add-lines
overflow_add-lines c =
    record { fits = omega (arith, (table-count _ _ (sym c.check_table.ensures ∙ c.in_ok-check_table.was))) }

pub returns : goal.returns
returns c =
    room_decides c.args.s c.args.table.now c.args.lines c.args.file.now (sym c.check_settings.ensures ∙ c.in_ok-check_settings.was) (sym c.check_table.ensures ∙ c.in_ok-check_table.was) _ c.check_room.ensures
