-- `heights::vertical::offset_of` meets its contract (rule 11).
use Rattle.std.proofs.Common.{◌∙◌}
use Rattle.heights.proofs.Upright.{offset_top, offset_middle, offset_bottom}
use Rattle.heights.proofs.Signs.{difference_is, half_is}
use Rattle.heights.proofs.vertical.offset_of.Goals as goal

pub returns-then-s-eq0 : goal.returns-then-s-eq0
returns-then-s-eq0 c =
    offset_top c.args.s c.args.high c.if-s-eq0.true

pub returns-then-s-eq1 : goal.returns-then-s-eq1
returns-then-s-eq1 c =
    half_is c.args.s.height.0 c.args.high c.requires.0.height c.requires.1
    ∙ offset_middle c.args.s c.args.high c.if-s-eq1.true

pub returns : goal.returns
returns c =
    difference_is c.args.s.height.0 c.args.high c.requires.0.height c.requires.1
    ∙ offset_bottom c.args.s c.args.high c.if-s-eq0.false c.if-s-eq1.false
