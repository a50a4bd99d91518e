-- `files::reader::read_file` meets its contract (refusal 1, refusal 2, refusal 3, refusal 5, refusal 8, refusal 9, refusal 11, refusal 12).
use Rattle.std.proofs.Common.{◌≡◌, subst, sym, ◌∙◌, arith}
use Rattle.std.specs.Prelude.{Ok}
use Rattle.meaning.specs.Refusals.{Checked}
use Rattle.meaning.specs.ReadFile.{check_fields}
use Rattle.files.specs.ReadingCalls.{HandsOut, hands_out, lines-inside, fields_good, lines_fit_lem, reading_refused, reading_done}
use Rattle.laws.specs.Asked.{asked}
use Rattle.files.proofs.reader.read_file.Goals as goal

pub hand_out_by-requires : goal.hand_out_by-requires
hand_out_by-requires c =
    subst (λ (k : Checked). HandsOut k c.args.file.now c.args.settings.now) (sym c.check_reading-checked.ensures) (hands_out c.args.file.now c.args.settings.now c.args.table.now)

pub returns-in_err-checked : goal.returns-in_err-checked
returns-in_err-checked c =
    let r = reading_refused c.args.file.now c.args.settings.now c.args.table.now _ c.check_reading-checked.ensures _ c.hand_out_by.ensures _ c.in_err-checked.was in
    record { value = asked _ c.from_residual.ensures.1 ∙ r.0; settings_after = r.1.0; table_after = r.1.1 }

pub lines_of-lines-requires : goal.lines_of-lines-requires
lines_of-lines-requires c =
    fields_good c.args.file.now c.args.settings.now c.args.table.now _ c.check_reading-checked.ensures _ c.hand_out_by.ensures c.in_ok-checked.was

pub write_table-requires : goal.write_table-requires
write_table-requires c =
    let found : check_fields c.args.file.now ≡ Ok tt = fields_good c.args.file.now c.args.settings.now c.args.table.now _ c.check_reading-checked.ensures _ c.hand_out_by.ensures c.in_ok-checked.was in
    let fit = lines_fit_lem c.args.file.now c.args.settings.now c.args.table.now _ c.check_reading-checked.ensures _ c.hand_out_by.ensures c.in_ok-checked.was in
    (omega (arith, c.lines_of-lines.ensures, lines-inside c.args.file.now found), omega (arith, c.lines_of-lines.ensures, fit))

pub file_length-requires : goal.file_length-requires
file_length-requires c =
    let found : check_fields c.args.file.now ≡ Ok tt = fields_good c.args.file.now c.args.settings.now c.args.table.now _ c.check_reading-checked.ensures _ c.hand_out_by.ensures c.in_ok-checked.was in
    omega (arith, lines-inside c.args.file.now found)

pub returns : goal.returns
returns c =
    let d = reading_done c.args.file.now c.args.settings.now c.args.table.now _ c.check_reading-checked.ensures _ c.hand_out_by.ensures c.in_ok-checked.was c.lines_of-lines.result c.file_length.result c.lines_of-lines.ensures c.file_length.ensures _ c.write_table.ensures in
    record { value = d.0; settings_after = d.1.0; table_after = d.1.1 }
