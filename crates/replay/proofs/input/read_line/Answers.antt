-- `replay::input::read_line` meets its contract.
use Rattle.std.proofs.Common.{ℕ, arith, length, subst, Option, Ok}
use Rattle.std.specs.declared.io.Error.{Error}
use Rattle.console.specs.Counts.{Came}
use Rattle.replay.proofs.LineLaws.{found_within}
use Rattle.replay.proofs.input.read_line.Goals as goal

pub returns-in-Some-find : goal.returns-in-Some-find
returns-in-Some-find g c =
    let came = subst (λ (o : Option ℕ). Came {E = Error} c.loop-end.end (length c.read_more.new.buffer) (Ok o)) c.in-Some.is c.in_ok-read.ensures.came in
    let w = found_within _ _ _ _ came.1 c.in-Some-find.ensures in
    (omega arith, w.1, came.1)
