-- `heights::height::y_of` meets its contract (rule 11).
use Rattle.std.proofs.Common.{◌≤◌, ◌∙◌, arith, pos}
use lib.Signed.{mag}
use Rattle.meaning.specs.Table.{entries_in}
use Rattle.heights.specs.GoodHeight.{height-measures, few-held, little_added, height-small}
use Rattle.heights.proofs.Upright.{first-near, y-fits, y-is, y-parts}
use Rattle.heights.proofs.Signs.{fits}
use Rattle.heights.proofs.height.y_of.Goals as goal
use Rattle.heights.proofs.height.y_of.Goals.{After-added_before-added}

-- Neither part is far from 0.
added_near : (c : After-added_before-added) → c.added_before-added.result ≤ 600000000
added_near c =
    omega (arith, c.added_before-added.ensures, little_added c.args.s c.args.table.now c.args.lines c.requires.0 c.args.line (omega arith))

first_near : (c : After-added_before-added) → mag c.first_y-first.result ≤ 600004097
first_near c =
    rw c.first_y-first.ensures (first-near c.args.s (entries_in c.args.lines c.args.table.now) (height-measures c.args.s c.args.table.now c.args.lines c.requires.0) (height-small c.args.s c.args.table.now c.args.lines c.requires.0))

pub added_before-added-requires : goal.added_before-added-requires
added_before-added-requires c =
    few-held c.args.s c.args.table.now c.args.lines c.requires.0 c.args.line (omega arith)

pub overflow_cast-result : goal.overflow_cast-result
overflow_cast-result c =
    fits (pos c.added_before-added.result) (omega (arith, (added_near (goal.at.overflow_cast-result c).After-added_before-added)))

pub overflow_add-result : goal.overflow_add-result
overflow_add-result c =
    y-fits c.first_y-first.result c.added_before-added.result (first_near (goal.at.overflow_add-result c).After-added_before-added) (added_near (goal.at.overflow_add-result c).After-added_before-added)

pub returns : goal.returns
returns c =
    y-is c.first_y-first.result c.added_before-added.result (first_near (goal.at.returns c).After-added_before-added) (added_near (goal.at.returns c).After-added_before-added)
    ∙ y-parts c.args.s c.args.table.now c.args.lines c.args.line c.added_before-added.result c.first_y-first.result (omega arith) c.first_y-first.ensures
    c.added_before-added.ensures
