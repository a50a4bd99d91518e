-- `files::writer::write_line` meets its contract (refusal 1, refusal 2, refusal 5, refusal 8).
use Rattle.std.proofs.Common.{arith}
use Rattle.files.specs.Writing.{line-put}
use Rattle.files.proofs.writer.write_line.Goals as goal

pub returns : goal.returns
returns c =
    line-put c.args.file.now _ _ c.args.table.now c.args.at c.args.k c.write_header.ensures c.write_numbers.ensures (omega arith) c.requires.1
