-- `utf8::sequence::between` meets its contract (refusal 4).
use Rattle.std.proofs.Common.{le-leb}
use borrow.Author.Tests.{lt-leb}
use Rattle.utf8.proofs.sequence.between.Goals as goal

pub returns-then-lo-b : goal.returns-then-lo-b
returns-then-lo-b c =
    simp (le-leb _ _ c.if-lo-b.true)

pub returns-else-lo-b : goal.returns-else-lo-b
returns-else-lo-b c =
    simp (lt-leb _ _ c.if-lo-b.false)
