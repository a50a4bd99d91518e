-- `pairs::plain_line::waits_behind` meets its contract (rule 8, rule 10).
use Rattle.std.proofs.Common.{sym, ◌∙◌, arith}
use Rattle.pairs.specs.PlainLineLaws.{waits-farther}
use Rattle.pairs.proofs.plain_line.waits_behind.Goals as goal

pub returns-then-ends_at : goal.returns-then-ends_at
returns-then-ends_at c =
    let ends = sym c.ends_at.ensures ∙ c.if-ends_at.true in
    (c.plain_found-then-ends_at.ensures.0, waits-farther _ _ _ _ _ (omega arith) (omega arith) c.requires.3 c.skip_plain-far.ensures.0 ends c.plain_found-then-ends_at.ensures.1)
