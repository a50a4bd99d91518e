-- `checks::limit::check_limit` meets its contract (refusal 1).
use Rattle.std.proofs.Common.{arith}
use Rattle.checks.specs.LimitLaws.{limit-none, limit-good}
use Rattle.checks.proofs.limit.check_limit.Goals as goal

pub returns-then-h-eq0 : goal.returns-then-h-eq0
returns-then-h-eq0 c =
    limit-none c.args.h (omega arith)

pub returns : goal.returns
returns c =
    limit-good c.args.h (λ e. omega arith)
