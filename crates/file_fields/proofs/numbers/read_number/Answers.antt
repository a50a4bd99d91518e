-- `files::numbers::read_number` meets its contract (the layout file).
use Rattle.std.proofs.Common.{arith}
use Rattle.file_fields.proofs.FieldLaws.{number_at}
use Rattle.file_fields.proofs.numbers.read_number.Goals as goal

pub returns : goal.returns
returns c =
    omega (arith, c.from_le_bytes.ensures, number_at c.args.file.now c.args.at)
