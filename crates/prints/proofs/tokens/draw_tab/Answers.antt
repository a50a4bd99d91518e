-- `prints::tokens::draw_tab` meets its contract (rule 8, rule 9, rule 13).
use Rattle.std.proofs.Common.{sym, ◌∙◌, arith}
use Rattle.meaning.specs.Cursor.{room_of}
use Rattle.moves.specs.FineLaws.{fits-room}
use Rattle.blanks.specs.TabLaws.{tab_foresees}
use Rattle.ink.specs.Sheet.{sheet}
use Rattle.prints.proofs.TabEvents.{tab-moved, tab-skips, tab-fits, tab-beyond}
use Rattle.prints.proofs.tokens.draw_tab.Goals as goal

pub returns-then-skips_space : goal.returns-then-skips_space
returns-then-skips_space c =
    tab-skips (sheet c.args.events.now c.args.pen) c.args.s c.args.p c.args.text.now c.args.at c.args.x c.requires.0.stands c.requires.1 (sym c.skips_space.ensures ∙ c.if-skips_space.true)

pub moved_on-q-requires : goal.moved_on-q-requires
moved_on-q-requires c =
    omega (arith, fits-room c.args.p.cursor c.tab_width-width.result (sym c.fits.ensures ∙ c.if-fits.true), c.requires.0.place)

pub draws_space-look-requires : goal.draws_space-look-requires
draws_space-look-requires c = (
  c.requires.0.settings,
  tab-moved c.args.p _ c.tab_width-width.result c.requires.0.place c.moved_on-q.ensures (sym c.fits.ensures ∙ c.if-fits.true),
  c.requires.0.short,
  c.requires.0.stands.within,
  tab_foresees c.args.s c.args.p c.requires.0.stands c.requires.1 c.args.seen c.requires.2 _ c.tab_width-width.ensures _ c.moved_on-q.ensures,
)

pub put_one-requires : goal.put_one-requires
put_one-requires c =
    omega (arith, fits-room c.args.p.cursor c.tab_width-width.result (sym c.fits.ensures ∙ c.if-fits.true), c.requires.0.place, c.requires.0.pen.few, c.requires.0.pen.narrow, c.requires.0.stands.longer, c.requires.0.stands.within, c.requires.0.short)

pub returns-then-fits : goal.returns-then-fits
returns-then-fits c =
    c.put_one.ensures
    ∙ tab-fits (sheet c.args.events.now c.args.pen) c.args.s c.args.p c.args.text.now c.args.at c.args.x c.requires.0.stands c.requires.1 c.tab_width-width.result c.tab_width-width.ensures (sym c.skips_space.ensures ∙ c.if-skips_space.false) c.moved_on-q.result c.draws_space-look.result c.tab_kind-kind.result (sym c.fits.ensures ∙ c.if-fits.true) c.moved_on-q.ensures c.draws_space-look.ensures c.tab_kind-kind.ensures

pub put_one-requires-2 : goal.put_one-requires-2
unfolding room_of
put_one-requires-2 c =
    omega (arith, c.room.ensures, c.requires.0.place, c.requires.0.pen.few, c.requires.0.pen.narrow, c.requires.0.stands.longer, c.requires.0.stands.within, c.requires.0.short)

pub returns : goal.returns
returns c =
    c.put_one-2.ensures
    ∙ tab-beyond (sheet c.args.events.now c.args.pen) c.args.s c.args.p c.args.text.now c.args.at c.args.x c.requires.0.stands c.requires.1 c.tab_width-width.result c.tab_width-width.ensures (sym c.skips_space.ensures ∙ c.if-skips_space.false) c.room.result (sym c.fits.ensures ∙ c.if-fits.false) c.room.ensures
