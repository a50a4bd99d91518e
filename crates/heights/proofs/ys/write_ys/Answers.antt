use Rattle.std.proofs.Common.{◌+◌, ◌*◌, ◌≤◌, sym, ◌∙◌, arith, pos, get_or, length-set}
use lib.Signed.{mag}
use Rattle.meaning.specs.Table.{entry_numbers, entries_in}
use Rattle.heights.specs.Heights.{end-small}
use Rattle.heights.specs.GoodHeight.{height-measures, few-held, little_added, height-small}
use Rattle.heights.proofs.Upright.{first-near, y-fits, y-is, y-parts}
use Rattle.heights.proofs.Signs.{fits}
use Rattle.heights.proofs.YsTurns.{y-written, all-written, added-on}
use Rattle.heights.proofs.ys.write_ys.Goals as goal
use Rattle.heights.proofs.ys.write_ys.Goals.{In-loop-k}

-- Neither part of a y is far from 0.
added_near : (c : In-loop-k) → c.loop-k.added ≤ 600000000
added_near c =
    omega (arith, c.loop-k.invariant.2, little_added c.args.s c.args.table.now c.args.lines c.requires.0 c.loop-k.k (omega arith))

first_near : (c : In-loop-k) → mag c.first_y-first.result ≤ 600004097
first_near c =
    rw c.first_y-first.ensures (first-near c.args.s (entries_in c.args.lines c.args.table.now) (height-measures c.args.s c.args.table.now c.args.lines c.requires.0) (height-small c.args.s c.args.table.now c.args.lines c.requires.0))

pub returns-then-lines-from : goal.returns-then-lines-from
returns-then-lines-from c =
    sym (all-written c.args.s c.args.table.now c.args.lines c.args.from c.args.index.now c.if-lines-from.true)

pub added_before-added-requires : goal.added_before-added-requires
added_before-added-requires c =
    few-held c.args.s c.args.table.now c.args.lines c.requires.0 c.args.from (omega arith)

pub overflow_cast-index : goal.overflow_cast-index
overflow_cast-index c =
    fits (pos c.loop-k.added) (omega (arith, (added_near (goal.at.overflow_cast-index c).In-loop-k)))

pub overflow_add-index : goal.overflow_add-index
overflow_add-index c =
    y-fits c.first_y-first.result c.loop-k.added (first_near (goal.at.overflow_add-index c).In-loop-k) (added_near (goal.at.overflow_add-index c).In-loop-k)

pub overflow_mul-k : goal.overflow_mul-k
overflow_mul-k c =
    omega (arith, (few-held c.args.s c.args.table.now c.args.lines c.requires.0 c.args.lines (omega arith)))

pub overflow_add-k : goal.overflow_add-k
overflow_add-k c =
    omega (arith, (few-held c.args.s c.args.table.now c.args.lines c.requires.0 c.args.lines (omega arith)))

pub offset_bounds-table-k : goal.offset_bounds-table-k
offset_bounds-table-k c =
    omega (arith, (few-held c.args.s c.args.table.now c.args.lines c.requires.0 c.args.lines (omega arith)))

pub bounds-table-k : goal.bounds-table-k
bounds-table-k c =
    omega (arith, (few-held c.args.s c.args.table.now c.args.lines c.requires.0 c.args.lines (omega arith)))

pub end_adds-added-requires : goal.end_adds-added-requires
end_adds-added-requires c =
    (few-held c.args.s c.args.table.now c.args.lines c.requires.0 c.args.lines (omega arith)).0

pub overflow_add-added : goal.overflow_add-added
overflow_add-added c =
    record {
      fits = omega (arith, (added_near (goal.at.overflow_add-added c).In-loop-k), c.end_adds-added.ensures, end-small c.args.s (few-held c.args.s c.args.table.now c.args.lines c.requires.0 c.args.lines (omega arith)).0 (get_or c.args.table.now (entry_numbers * c.loop-k.k + 3) 0));
    }

pub loop-k-preserved : goal.loop-k-preserved
loop-k-preserved c =
    let y =
    y-is c.first_y-first.result c.loop-k.added (first_near (goal.at.loop-k-preserved c).In-loop-k) (added_near (goal.at.loop-k-preserved c).In-loop-k)
    ∙ y-parts c.args.s c.args.table.now c.args.lines c.loop-k.k c.loop-k.added c.first_y-first.result (omega arith) c.first_y-first.ensures
    c.loop-k.invariant.2
    in (
      sym (y-written c.args.s c.args.table.now c.args.lines c.loop-k.k c.loop-k.index c.loop-k-test.true (omega arith) _ y) ∙ c.loop-k.invariant.0,
      simp length-set c.loop-k.invariant.1,
      omega (arith, c.loop-k.invariant.2, c.end_adds-added.ensures, added-on c.args.s c.args.table.now c.loop-k.k),
    )

pub returns : goal.returns
returns c =
    sym (all-written c.args.s c.args.table.now c.args.lines c.loop-k.k c.loop-k.index c.loop-k-test.false) ∙ c.loop-k.invariant.0
