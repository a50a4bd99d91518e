-- `utf8::long::broad_at` meets its contract (refusal 4, rule 2).
use Rattle.std.proofs.Common.{sym, ◌∙◌, arith}
use mathlib.Core.Bool.{false≢true}
use Rattle.utf8.specs.Long.{ideographic_triple, long-three}
use Rattle.utf8.proofs.long.broad_at.Goals as goal

pub returns-then-wide_at : goal.returns-then-wide_at
returns-then-wide_at c =
    λ _. c.wide_at.ensures c.if-wide_at.true

pub returns-then-text-lt3 : goal.returns-then-text-lt3
returns-then-text-lt3 c =
    λ e. absurd (false≢true e)

pub returns-then-text-at : goal.returns-then-text-at
returns-then-text-at c =
    λ e. absurd (false≢true e)

pub returns : goal.returns
returns c =
    λ e. long-three _ _ (omega arith) (ideographic_triple _ _ _ (sym c.is_mark.ensures ∙ e))
