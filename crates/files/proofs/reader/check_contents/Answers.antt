-- `files::reader::check_contents` meets its contract (refusal 1, refusal 2, refusal 3, refusal 5, refusal 8, refusal 9, refusal 11, refusal 12).
use Rattle.std.proofs.Common.{◌≡◌, sym, ap, ◌∙◌, arith, length}
use Rattle.std.specs.Prelude.{Ok}
use Rattle.meaning.specs.ReadFile.{file_settings}
use Rattle.meaning.specs.declared.settings.Settings.{Settings}
use Rattle.files.specs.Known.{known_tests}
use Rattle.files.specs.ReadingCalls.{lines-inside, known-stops, text-stops, rooms_decide}
use Rattle.laws.specs.Asked.{asked}
use Rattle.files.proofs.reader.check_contents.Goals as goal
use Rattle.files.proofs.reader.check_contents.Goals.{In_ok-check_known}

-- The settings are known.
known : (c : In_ok-check_known) → known_tests (file_settings c.args.file.now) (length c.args.settings.now) ≡ Ok tt
known c =
    sym (c.check_known.ensures ∙ ap (λ (s : Settings). known_tests s (length c.args.settings.now)) c.file_settings.ensures) ∙ c.in_ok-check_known.was

pub file_settings-requires : goal.file_settings-requires
file_settings-requires c =
    omega (arith, lines-inside c.args.file.now c.requires)

pub returns-in_err-check_known : goal.returns-in_err-check_known
returns-in_err-check_known c =
    asked _ c.from_residual.ensures.1 ∙ known-stops c.args.file.now c.args.settings.now c.args.table.now _ (sym (c.check_known.ensures ∙ ap (λ (s : Settings). known_tests s (length c.args.settings.now)) c.file_settings.ensures) ∙ c.in_err-check_known.was)

pub check_lines_read-requires : goal.check_lines_read-requires
check_lines_read-requires c =
    omega (arith, c.lines_of-lines.ensures, lines-inside c.args.file.now c.requires)

pub returns-in_err-check_lines_read : goal.returns-in_err-check_lines_read
returns-in_err-check_lines_read c =
    asked _ c.from_residual-in_err-check_lines_read.ensures.1 ∙ text-stops c.args.file.now c.args.settings.now c.args.table.now (known (goal.at.returns-in_err-check_lines_read c).In_ok-check_known) c.lines_of-lines.result c.lines_of-lines.ensures _ (sym c.check_lines_read.ensures ∙ c.in_err-check_lines_read.was)

pub returns : goal.returns
returns c =
    c.check_rooms.ensures ∙ rooms_decide c.args.file.now c.args.settings.now c.args.table.now (known (goal.at.returns c).In_ok-check_known) c.lines_of-lines.result c.lines_of-lines.ensures (sym c.check_lines_read.ensures ∙ c.in_ok-check_lines_read.was)
