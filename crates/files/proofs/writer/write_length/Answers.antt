-- `files::writer::write_length` meets its contract (refusal 1, refusal 2, refusal 5, refusal 8).
use Rattle.std.proofs.Common.{arith}
use Rattle.files.specs.Writing.{length-put}
use Rattle.files.proofs.writer.write_length.Goals as goal

pub returns : goal.returns
returns c =
    length-put c.args.file.now _ _ c.args.bytes c.write_header.ensures c.write_number.ensures (omega arith)
