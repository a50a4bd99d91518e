-- `files::writer::write_rows` meets its contract (refusal 1, refusal 2, refusal 5, refusal 8).
use Rattle.std.proofs.Common.{arith}
use Rattle.meaning.specs.LayoutFile.{file_bytes}
use Rattle.files.specs.Writing.{rows-put}
use Rattle.files.proofs.writer.write_rows.Goals as goal

pub write_lines-requires : goal.write_lines-requires
unfolding file_bytes
write_lines-requires c =
    (omega arith, omega arith)

pub write_header-requires : goal.write_header-requires
unfolding file_bytes
write_header-requires c =
    (omega (arith, c.write_lines.auto.file), omega arith)

pub returns : goal.returns
unfolding file_bytes
returns c =
    rows-put c.args.file.now _ _ c.args.table.now c.args.lines c.write_lines.ensures c.write_header.ensures (omega arith)
