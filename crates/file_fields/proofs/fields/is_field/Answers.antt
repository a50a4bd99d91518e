-- `files::fields::is_field` meets its contract (refusal 9).
use Rattle.std.proofs.Common.{arith}
use Rattle.file_fields.proofs.FieldLaws.{cut_short, told}
use Rattle.file_fields.proofs.fields.is_field.Goals as goal

pub returns-then-file-at : goal.returns-then-file-at
returns-then-file-at c =
    cut_short c.args.file.now c.args.at c.args.tag c.args.size (omega arith)

pub returns : goal.returns
returns c =
    told c.args.file.now c.args.at c.args.tag c.args.size _ (omega arith) c.size_of.ensures
