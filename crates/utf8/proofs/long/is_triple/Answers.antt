-- `utf8::long::is_triple` meets its contract (refusal 4, rule 2).
use Rattle.std.proofs.Common.{sym, subst, ℕ}
use Rattle.utf8.specs.Long.{Triple}
use Rattle.utf8.proofs.long.is_triple.Goals as goal

pub returns-then-a-eq226 : goal.returns-then-a-eq226
returns-then-a-eq226 c =
    λ e.
    subst (λ (a : ℕ). Triple a c.args.b c.args.c) (sym c.if-a-eq226.true) (c.is_sign.ensures e)

pub returns : goal.returns
returns c =
    c.is_high.ensures
