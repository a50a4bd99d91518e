-- `drawing::lone::draw_lone` meets its contract (rule 8, rule 13).
use Rattle.std.proofs.Common.{sym, ap, ◌∙◌, arith}
use Rattle.ink.specs.Sheet.{sheet, drawn_on}
use Rattle.drawing.proofs.LoneEvents.{lone-drawn, lone-inside}
use Rattle.drawing.proofs.lone.draw_lone.Goals as goal

pub put_one-requires : goal.put_one-requires
put_one-requires c =
    let l = lone-inside c.requires.0.pass c.requires.1 in
    (omega (arith, c.requires.0.few, c.requires.0.pass.inside, c.requires.0.pass.short), omega (arith, c.requires.0.narrow, c.requires.0.pass.inside, c.requires.0.pass.short, c.requires.0.pass.settings.1), omega (arith, l), l)

pub returns : goal.returns
returns c =
    c.put_one.ensures ∙ ap (drawn_on (sheet c.args.events.now c.args.g.pen)) (sym (lone-drawn c.requires.0.pass c.requires.1))
