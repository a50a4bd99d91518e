-- `heights::height::first_y` meets its contract (rule 11).
use Rattle.std.proofs.Common.{◌≤◌, ◌∙◌, arith}
use lib.Signed.{mag}
use Rattle.meaning.specs.Table.{entries_in}
use Rattle.heights.specs.GoodHeight.{height-measures, height-small}
use Rattle.heights.proofs.Signs.{kept}
use Rattle.heights.proofs.Upright.{offset_limit, sum_fits, sum_is, first-top, first-sum}
use Rattle.heights.proofs.height.first_y.Goals as goal
use Rattle.heights.proofs.height.first_y.Goals.{After-offset_of-offset}

-- The offset is near 0.
near : (c : After-offset_of-offset) → mag c.offset_of-offset.result ≤ 600000000
near c =
    offset_limit c.args.s (height-measures c.args.s c.args.table.now c.args.lines c.requires) c.height_of-high.result c.offset_of-offset.result c.offset_of-offset.ensures (omega (arith, c.height_of-high.ensures, height-small c.args.s c.args.table.now c.args.lines c.requires))

pub returns-then-s-eq0 : goal.returns-then-s-eq0
returns-then-s-eq0 c =
    kept c.args.s.top (omega (arith, ((height-measures c.args.s c.args.table.now c.args.lines c.requires).top))) ∙ first-top c.args.s (entries_in c.args.lines c.args.table.now) (omega arith)

pub offset_of-offset-requires : goal.offset_of-offset-requires
offset_of-offset-requires c = (
  height-measures c.args.s c.args.table.now c.args.lines c.requires,
  omega (arith, c.height_of-high.ensures, height-small c.args.s c.args.table.now c.args.lines c.requires),
)

pub overflow_add-result : goal.overflow_add-result
overflow_add-result c =
    sum_fits c.args.s.top c.offset_of-offset.result ((height-measures c.args.s c.args.table.now c.args.lines c.requires).top) (near (goal.at.overflow_add-result c).After-offset_of-offset)

pub returns : goal.returns
returns c =
    sum_is c.args.s.top c.offset_of-offset.result ((height-measures c.args.s c.args.table.now c.args.lines c.requires).top) (near (goal.at.returns c).After-offset_of-offset)
    ∙ first-sum c.args.s (entries_in c.args.lines c.args.table.now) c.height_of-high.result c.offset_of-offset.result
    c.offset_of-offset.ensures c.height_of-high.ensures
