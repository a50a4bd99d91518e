-- `drawing::waiting::draw_waiting` meets its contract (rule 8, rule 13).
use Rattle.std.proofs.Common.{refl, sym, ap, ◌∙◌, arith}
use Rattle.strides.specs.OnwardLaws.{read-pending}
use Rattle.ink.specs.Sheet.{sheet, drawn_on, on_none}
use Rattle.drawing.proofs.StrideEvents.{waits-thin, waits-cut}
use Rattle.drawing.proofs.waiting.draw_waiting.Goals as goal

pub returns-then-not-space_fits : goal.returns-then-not-space_fits
returns-then-not-space_fits c =
    let sh = sheet c.args.events.now c.args.g.pen in
    sym (on_none sh)
    ∙ ap (drawn_on sh) (sym (waits-cut c.requires.0.pass _ c.requires.1 _ refl (sym c.space_fits.ensures ∙ c.if-not-space_fits.true)))

pub put_one-requires : goal.put_one-requires
put_one-requires c =
    let y = (read-pending _ _ _ c.requires.1.pair.space).stands in (
      omega (arith, c.requires.0.few, c.requires.0.pass.inside, c.requires.0.pass.short),
      omega (arith, c.requires.0.narrow, c.requires.0.pass.inside, c.requires.0.pass.short),
      omega (arith, c.requires.0.pass.inside, c.requires.0.pass.short),
      omega (arith, y.within, c.requires.0.pass.short),
    )

pub returns : goal.returns
returns c =
    c.put_one.ensures
    ∙ ap (drawn_on (sheet c.args.events.now c.args.g.pen))
    (sym (waits-thin c.requires.0.pass _ c.requires.1 _ refl (sym c.space_fits.ensures ∙ c.if-not-space_fits.false)))
