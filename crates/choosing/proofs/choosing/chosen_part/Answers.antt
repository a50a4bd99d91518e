-- `choosing::choosing::chosen_part` meets its contract (rule 10).
use Rattle.std.proofs.Common.{arith, sym, ◌∙◌, length-take-le}
use Rattle.choosing.specs.ChosenPart.{taken-within}
use Rattle.choosing.specs.Taking.{end_is}
use Rattle.choosing.specs.Choosing.{part-long, part-short, part_all}
use Rattle.choosing.proofs.choosing.chosen_part.Goals as goal

pub returns-then-fits : goal.returns-then-fits
returns-then-fits c =
    part-long _ _ _ _ (sym c.if-fits.true ∙ c.requires.0)

pub returns-in-None : goal.returns-in-None
returns-in-None c =
    part_all _ _ _ _ (sym c.if-fits.false ∙ c.requires.0) c.requires.1.utf8 c.in-None.ensures

pub slice_bounds-result-end : goal.slice_bounds-result-end
slice_bounds-result-end c =
    let e = end_is _ _ _ _ c.in-Some.ensures in
    sym (length-take-le _ c.args.short.now (omega (arith, e, taken-within c.args.s c.args.h c.args.short.now c.requires.1.utf8)))

pub returns-in-Some : goal.returns-in-Some
returns-in-Some c =
    part-short _ _ _ _ (sym c.if-fits.false ∙ c.requires.0) _ (end_is _ _ _ _ c.in-Some.ensures)
