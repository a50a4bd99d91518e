-- `heights::spacing::not_counted` meets its contract (rule 11).
use Rattle.heights.proofs.Adding.{left-few, left-ending, left-start, left_out_lem}
use Rattle.heights.proofs.spacing.not_counted.Goals as goal

pub returns-then-lines-lt2 : goal.returns-then-lines-lt2
returns-then-lines-lt2 c =
    left-few c.args.s c.args.bytes.0 c.args.lines c.args.table.now c.if-lines-lt2.true

pub returns-then-table-at-ne3 : goal.returns-then-table-at-ne3
returns-then-table-at-ne3 c =
    left-ending c.args.s c.args.bytes.0 c.args.lines c.args.table.now c.if-lines-lt2.false c.if-table-at-ne3.true

pub returns-then-table-at : goal.returns-then-table-at
returns-then-table-at c =
    left-start c.args.s c.args.bytes.0 c.args.lines c.args.table.now c.if-lines-lt2.false c.if-table-at-ne3.false c.if-table-at.true

pub returns : goal.returns
returns c =
    left_out_lem c.args.s c.args.bytes.0 c.args.lines c.args.table.now c.if-lines-lt2.false c.if-table-at-ne3.false c.if-table-at.false
