-- `blanks::ahead::look_beyond` meets its contract (rule 8).
use Rattle.std.proofs.Common.{◌≡◌, sym, ◌∙◌, true, arith}
use Rattle.meaning.specs.Cursor.{fits_in}
use Rattle.moves.specs.FineLaws.{fits-room}
use Rattle.blanks.specs.BeyondLaws.{stands-few, beyond-kept, beyond-looked, beyond_fine}
use Rattle.blanks.proofs.ahead.look_beyond.Goals as goal

pub white_width-width-requires : goal.white_width-width-requires
white_width-width-requires c =
    (c.requires.0.place.0, c.requires.0.place.1, stands-few c.requires.0.stands c.requires.0.short)

pub returns-in-Some : goal.returns-in-Some
returns-in-Some c =
    beyond-kept c.requires.0 c.requires.1 c.if-p.false _ c.white_width-width.ensures (sym c.fits.ensures ∙ c.if-not-fits.false) _ c.in-Some.is

pub advanced-next-requires : goal.advanced-next-requires
advanced-next-requires c =
    omega (arith, fits-room _ _ (sym c.fits.ensures ∙ c.if-not-fits.false), c.requires.0.place.0)

pub next_word_fits-requires : goal.next_word_fits-requires
next_word_fits-requires c =
    let f = beyond_fine c.requires.0 c.requires.1 c.if-p.false _ c.white_width-width.ensures (sym c.fits.ensures ∙ c.if-not-fits.false) _ _ c.advanced-next.ensures c.spaces_after-left.ensures in
    (f.0, f.1, c.requires.0.short, c.requires.0.settings.1, c.requires.0.stands.within)

pub returns : goal.returns
returns c =
    beyond-looked c.requires.0 c.requires.1 c.if-p.false _ c.white_width-width.ensures (sym c.fits.ensures ∙ c.if-not-fits.false) _ _ _ c.advanced-next.ensures c.spaces_after-left.ensures
    c.next_word_fits.ensures
