-- `files::numbers::write_number` meets its contract (the layout file).
use Rattle.std.proofs.Common.{◌+◌, refl, ◌∙◌}
use Rattle.meaning.specs.LayoutFile.{bytes_of}
use Rattle.file_fields.specs.Putting.{copied_put}
use Rattle.file_fields.proofs.numbers.write_number.Goals as goal

pub returns : goal.returns
unfolding bytes_of
returns c =
    copied_put c.args.file.now c.args.at (c.args.at + 4) _ (bytes_of c.args.n) (c.copy_from_slice.ensures.after ∙ c.to_le_bytes.ensures) refl
