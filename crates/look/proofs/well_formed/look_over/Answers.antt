-- `table::well_formed::look_over` meets its contract (refusal 5).
use Rattle.std.proofs.Common.{sym, ap, ◌∙◌, arith}
use Rattle.meaning.specs.Refusals.{Checked}
use Rattle.meaning.specs.Table.{entries_in}
use Rattle.look.specs.GoodTable.{reach-some}
use Rattle.look.specs.Looking.{looked_over, looked_bad}
use Rattle.look.proofs.LineByLine.{few, reach_bad, reach-good}
use Rattle.look.proofs.well_formed.look_over.Goals as goal

pub returns-then-table-lines : goal.returns-then-table-lines
returns-then-table-lines c =
    looked_bad _ _ _ _ (sym (few c.args.table.now c.args.lines c.if-table-lines.true))

pub returns-then-reach-lt1 : goal.returns-then-reach-lt1
returns-then-reach-lt1 c =
    looked_bad _ _ _ _ (sym (reach_bad c.args.table.now c.args.lines c.if-table-lines.false c.last_reach-reach.result.0
    c.last_reach-reach.ensures (λ a b. absurd (omega (arith, c.if-reach-lt1.true)))))

pub returns-then-reach-gt-REACH_LIMIT : goal.returns-then-reach-gt-REACH_LIMIT
returns-then-reach-gt-REACH_LIMIT c =
    looked_bad _ _ _ _ (sym (reach_bad c.args.table.now c.args.lines c.if-table-lines.false c.last_reach-reach.result.0
    c.last_reach-reach.ensures (λ a b. absurd (omega (arith, c.if-reach-gt-REACH_LIMIT.true)))))

pub look_lines-requires : goal.look_lines-requires
look_lines-requires c =
    (reach-some c.args.lines c.args.table.now (omega (arith, c.if-reach-lt1.false, c.last_reach-reach.ensures)), omega arith)

pub returns : goal.returns
returns c =
    let es = entries_in c.args.lines c.args.table.now in
    c.look_lines.ensures
    ∙ ap (λ (k : Checked). looked_over c.args.a.0 k es)
    (reach-good c.args.table.now c.args.lines c.if-table-lines.false c.last_reach-reach.result.0 c.last_reach-reach.ensures
    c.if-reach-lt1.false c.if-reach-gt-REACH_LIMIT.false)
