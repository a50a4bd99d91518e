-- `blanks::tabs::on_tab` meets its contract (rule 8).
use Rattle.std.proofs.Common.{arith, false, ◌≡◌, sym, ◌∙◌}
use Rattle.blanks.specs.TabLaws.{tab-skipped, tab-fits, tab-beyond, tab-moved, tab_foresees}
use Rattle.moves.specs.FineLaws.{fits-room}
use Rattle.meaning.specs.LineIter.{skips}
use Rattle.meaning.specs.Cursor.{room_of, fits_in}
use Rattle.blanks.proofs.tabs.on_tab.Goals as goal

pub returns-then-skips_space : goal.returns-then-skips_space
returns-then-skips_space c =
    tab-skipped c.requires.0 c.requires.1 (sym c.skips_space.ensures ∙ c.if-skips_space.true)

pub moved_on-q-requires : goal.moved_on-q-requires
moved_on-q-requires c =
    omega (arith, fits-room _ _ ((sym c.fits.ensures) ∙ c.if-fits.true), c.requires.0.place)

pub draws_space-look-requires : goal.draws_space-look-requires
draws_space-look-requires c = (
  c.requires.0.settings,
  tab-moved c.requires.0 c.requires.1 _ _ c.moved_on-q.ensures ((sym c.fits.ensures) ∙ c.if-fits.true),
  c.requires.0.short,
  c.requires.0.stands.within,
  tab_foresees c.args.s c.args.p c.requires.0.stands c.requires.1 c.args.seen c.requires.2 _ c.tab_width-width.ensures _ c.moved_on-q.ensures,
)

pub noted_space-requires : goal.noted_space-requires
noted_space-requires c =
    omega (arith, fits-room _ _ ((sym c.fits.ensures) ∙ c.if-fits.true), c.requires.0)

pub returns-then-fits : goal.returns-then-fits
returns-then-fits c =
    tab-fits c.requires.0 c.requires.1 _ c.tab_width-width.ensures (sym c.skips_space.ensures ∙ c.if-skips_space.false) _ _ _ ((sym c.fits.ensures) ∙ c.if-fits.true)
    c.moved_on-q.ensures c.draws_space-look.ensures c.noted_space.ensures

pub moved_on-edge-requires : goal.moved_on-edge-requires
unfolding room_of
moved_on-edge-requires c =
    omega (arith, c.room-left.ensures, c.requires.0.place)

pub noted_space-requires-2 : goal.noted_space-requires-2
unfolding room_of
noted_space-requires-2 c =
    omega (arith, c.room-left.ensures, c.requires.0)

pub returns : goal.returns
returns c =
    tab-beyond c.requires.0 c.requires.1 _ c.tab_width-width.ensures (sym c.skips_space.ensures ∙ c.if-skips_space.false) _ _ _ ((sym c.fits.ensures) ∙ c.if-fits.false)
    c.room-left.ensures c.moved_on-edge.ensures c.noted_space-2.ensures
