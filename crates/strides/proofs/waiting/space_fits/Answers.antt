-- `strides::waiting::space_fits` meets its contract (rule 4, rule 5).
use Rattle.std.proofs.Common.{ap, ◌∙◌}
use Rattle.meaning.specs.Cursor.{fits_in}
use Rattle.strides.proofs.waiting.space_fits.Goals as goal

pub returns : goal.returns
returns c =
    c.fits.ensures ∙ ap (fits_in c.args.p.cursor) c.spaces_width.ensures
