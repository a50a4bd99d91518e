-- `ink::words::close_stretch` meets its contract (rule 8, rule 13).
use Rattle.std.proofs.Common.{◌∙◌, arith}
use Rattle.ink.specs.Sheet.{sheet, pen-one}
use Rattle.ink.proofs.StretchLaws.{space-small, closes-empty, closes}
use Rattle.ink.proofs.words.close_stretch.Goals as goal

pub put_one-requires : goal.put_one-requires
put_one-requires c =
    omega (arith, c.spaces_width-space.ensures, space-small c.args.sp c.requires.0)

pub returns-then-to-from : goal.returns-then-to-from
returns-then-to-from c =
    c.put_one.ensures
    ∙ closes-empty (sheet c.args.events.now c.args.pen) c.args.from c.args.to c.args.wide c.args.end c.args.sp _ c.spaces_width-space.ensures c.if-to-from.true

pub put_one-requires-2 : goal.put_one-requires-2
put_one-requires-2 c =
    omega (arith, c.spaces_width-space.ensures, space-small c.args.sp c.requires.0, pen-one c.args.events.now _ c.args.pen c.put_one-printed.result _ c.put_one-printed.ensures)

pub returns : goal.returns
returns c =
    c.put_one-2.ensures
    ∙ closes (sheet c.args.events.now c.args.pen) c.args.from c.args.to c.args.wide c.args.end c.args.sp _ c.spaces_width-space.ensures c.if-to-from.false _ c.put_one-printed.ensures
