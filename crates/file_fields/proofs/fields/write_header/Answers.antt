-- `files::fields::write_header` meets its contract (refusal 9).
use Rattle.std.proofs.Common.{◌≡◌, ◌/◌, ◌%◌, [], ◌∷◌, arith, length-set}
use Rattle.table.specs.Numbers.{stored-are}
use Rattle.file_fields.proofs.fields.write_header.Goals as goal

pub bounds-file-at-2 : goal.bounds-file-at-2
bounds-file-at-2 c =
    simp length-set (omega arith)

pub bounds-file-at-3 : goal.bounds-file-at-3
bounds-file-at-3 c =
    simp length-set (omega arith)

pub shape_of-file : goal.shape_of-file
shape_of-file c =
    simp length-set

pub returns : goal.returns
returns c =
    let high : c.args.size / 256 % 256 ≡ c.args.size / 256 = omega (arith, c.requires.1) in
    rw (c.to_le_bytes.ensures, high)
    (stored-are (c.args.tag ∷ c.args.size % 256 ∷ c.args.size / 256 ∷ []) c.args.file.now c.args.at c.requires.0)
