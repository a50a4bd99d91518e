-- `files::signs::bits_of` meets its contract (the layout file).
use Rattle.std.proofs.Common.{to_z-of_z, ◌∙◌}
use Rattle.file_fields.proofs.SignLaws.{bits_is}
use Rattle.file_fields.proofs.signs.bits_of.Goals as goal

pub returns : goal.returns
returns c =
    c.cast_unsigned.ensures ∙ rw (to_z-of_z c.ranges.z) (bits_is c.args.z)
