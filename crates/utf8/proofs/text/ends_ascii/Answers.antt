-- `utf8::text::ends_ascii` meets its contract (refusal 4, refusal 6).
use Rattle.std.proofs.Common.{◌+◌, ◌-◌, arith, length}
use mathlib.Core.Bool.{false≢true}
use Rattle.utf8.specs.Ascii.{below-part, plain-below}
use Rattle.utf8.proofs.text.ends_ascii.Goals as goal

pub returns-then-text-lt32 : goal.returns-then-text-lt32
returns-then-text-lt32 c =
    λ e. absurd (false≢true e)

pub returns-then-from-last : goal.returns-then-from-last
returns-then-from-last c =
    λ e. absurd (false≢true e)

pub all_ascii-requires : goal.all_ascii-requires
all_ascii-requires c =
    (omega arith, omega arith)

pub returns : goal.returns
returns c =
    λ e.
    let last = length c.args.text.now - 32 in
    (plain-below c.args.text.now c.args.from (length c.args.text.now) (omega arith) (omega arith) (below-part c.args.text.now last (last + 32) c.args.from (length c.args.text.now) (omega arith) (omega arith) (c.all_ascii.ensures e))).passed
