-- `files::writer::write_fields` meets its contract (refusal 1, refusal 2, refusal 5, refusal 8).
use Rattle.std.proofs.Common.{arith, rules}
use Rattle.laws.specs.TableLaws.{entries_length}
use Rattle.meaning.specs.LayoutFile.{layout_file, file_bytes}
use Rattle.meaning.specs.Table.{entries_in}
use Rattle.meaning.specs.WellFormed.{text_length}
use Rattle.files.specs.Writing.{fields_put}
use Rattle.files.proofs.writer.write_fields.Goals as goal

pub write_settings-requires : goal.write_settings-requires
unfolding file_bytes
write_settings-requires c =
    omega arith

pub write_length-requires : goal.write_length-requires
unfolding file_bytes
write_length-requires c =
    omega (arith, c.write_settings.auto.file)

pub write_rows-requires : goal.write_rows-requires
unfolding file_bytes
write_rows-requires c =
    search rules

pub returns : goal.returns
unfolding layout_file
returns c =
    let es = entries_in c.args.lines c.args.table.now in
    fields_put c.args.file.now c.args.s (text_length es) es _ _ _ _ c.write_settings.ensures c.write_length.ensures c.text_length-bytes.ensures c.write_rows.ensures (rw (entries_length c.args.lines c.args.table.now) c.requires.0)
