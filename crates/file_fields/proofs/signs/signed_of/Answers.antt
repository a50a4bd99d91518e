-- `files::signs::signed_of` meets its contract (the layout file).
use Rattle.std.proofs.Common.{to_z-of_z, ◌∙◌}
use Rattle.std.specs.Int.{w32}
use Rattle.file_fields.proofs.SignLaws.{signed_is}
use Rattle.file_fields.proofs.signs.signed_of.Goals as goal

pub returns : goal.returns
returns c =
    to_z-of_z {w = w32} (record { sfits = c.cast_signed.type_inv }) ∙ c.cast_signed.ensures ∙ signed_is c.args.bits
