-- `blanks::hyphens::shows` meets its contract (rule 7, rule 8).
use Rattle.blanks.specs.HyphenLaws.{shows-not}
use Rattle.blanks.proofs.hyphens.shows.Goals as goal

pub returns : goal.returns
returns c =
    shows-not c.args.p c.args.width _ c.if-p.false c.fits.ensures
