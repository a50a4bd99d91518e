-- `utf8::long::wide_at` meets its contract (refusal 4, rule 2).
use Rattle.std.proofs.Common.{sym, ◌∙◌, arith}
use mathlib.Core.Bool.{false≢true}
use Rattle.utf8.specs.Long.{wide_triple, long-three}
use Rattle.utf8.proofs.long.wide_at.Goals as goal

pub returns-then-text-lt3 : goal.returns-then-text-lt3
returns-then-text-lt3 c =
    λ e. absurd (false≢true e)

pub returns-then-text-at : goal.returns-then-text-at
returns-then-text-at c =
    λ e. absurd (false≢true e)

pub returns : goal.returns
returns c =
    λ e. long-three _ _ (omega arith) (wide_triple _ _ _ (sym c.is_wide.ensures ∙ e))
