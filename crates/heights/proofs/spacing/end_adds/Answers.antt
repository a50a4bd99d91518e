-- `heights::spacing::end_adds` meets its contract (rule 11).
use Rattle.heights.proofs.Adding.{end-new, end_break, end_other}
use Rattle.heights.proofs.spacing.end_adds.Goals as goal

pub returns-then-ending-eq0 : goal.returns-then-ending-eq0
returns-then-ending-eq0 c =
    end-new c.args.s c.args.ending c.if-ending-eq0.true

pub returns-then-ending-eq3 : goal.returns-then-ending-eq3
returns-then-ending-eq3 c =
    end_break c.args.s c.args.ending c.if-ending-eq3.true

pub returns : goal.returns
returns c =
    end_other c.args.s c.args.ending c.if-ending-eq0.false c.if-ending-eq3.false
