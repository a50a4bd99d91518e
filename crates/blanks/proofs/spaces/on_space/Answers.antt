-- `blanks::spaces::on_space` meets its contract (rule 8, rule 9).
use Rattle.std.proofs.Common.{false, arith, ◌≡◌, sym, ap, ◌∙◌, ◌≤◌}
use Rattle.steps.specs.RunLaws.{space-few, whole_ready, space-skipped, space-whole, space-cut}
use Rattle.moves.specs.FineLaws.{fits-room}
use Rattle.meaning.specs.declared.cursor.Place.{Place}
use Rattle.meaning.specs.Cursor.{fits_in}
use Rattle.meaning.specs.LineIter.{skips}
use Rattle.blanks.proofs.spaces.on_space.Goals as goal

pub noted_space-requires : goal.noted_space-requires
noted_space-requires c =
    omega (arith, (space-few c.requires.0 c.requires.1), c.requires.0)

pub returns-then-skips_space : goal.returns-then-skips_space
returns-then-skips_space c =
    space-skipped c.requires.0 c.requires.1 _ _ c.used_up-used.ensures c.noted_space.ensures
    (sym c.skips_space.ensures ∙ c.if-skips_space.true)

pub spaces_width-width-requires : goal.spaces_width-width-requires
spaces_width-width-requires c =
    omega (arith, (space-few c.requires.0 c.requires.1), c.requires.0)

pub moved_on-requires : goal.moved_on-requires
moved_on-requires c =
    omega (arith, ap (λ (q : Place). q.cursor.position.0) c.used_up-used.ensures, fits-room _ _ ((sym c.fits.ensures) ∙ c.if-fits.true), c.requires.0.place)

pub whole_run-requires : goal.whole_run-requires
whole_run-requires c =
    whole_ready c.requires.0 c.requires.1 _ _ _ c.used_up-used.ensures c.moved_on.ensures ((sym c.fits.ensures) ∙ c.if-fits.true)
    c.spaces_width-width.ensures c.args.seen c.requires.2

pub returns-then-fits : goal.returns-then-fits
returns-then-fits c =
    c.whole_run.ensures
    ∙ space-whole c.requires.0 c.requires.1 _ c.spaces_width-width.ensures (sym c.skips_space.ensures ∙ c.if-skips_space.false) ((sym c.fits.ensures) ∙ c.if-fits.true) _ _
    c.used_up-used.ensures c.moved_on.ensures

pub cut_run-requires : goal.cut_run-requires
cut_run-requires c =
    record { ready = c.requires.0; kind = c.requires.1; wide = c.spaces_width-width.ensures; over = (sym c.fits.ensures) ∙ c.if-fits.false }

pub returns : goal.returns
returns c =
    c.cut_run.ensures
    ∙ space-cut c.requires.0 c.requires.1 _ c.spaces_width-width.ensures (sym c.skips_space.ensures ∙ c.if-skips_space.false) ((sym c.fits.ensures) ∙ c.if-fits.false)
