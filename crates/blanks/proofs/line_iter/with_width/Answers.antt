-- `blanks::line_iter::with_width` meets its contract (rule 8).
use Rattle.std.proofs.Common.{ap, arith}
use Rattle.meaning.specs.Lookahead.{added}
use Rattle.steps.specs.Ahead.{known_of}
use Rattle.blanks.proofs.line_iter.with_width.Goals as goal

pub overflow_add-result : goal.overflow_add-result
overflow_add-result c =
    record { fits = omega (arith, ap known_of c.in-Some.is) }

pub returns-in-None : goal.returns-in-None
unfolding added
returns-in-None c =
    rw c.in-None.is

pub returns-in-Some : goal.returns-in-Some
unfolding added
returns-in-Some c =
    rw c.in-Some.is
