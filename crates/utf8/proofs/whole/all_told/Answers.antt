-- `utf8::whole::all_told` meets its contract (refusal 4).
use Rattle.std.proofs.Common.{sym, ◌∙◌, arith}
use mathlib.Core.Bool.{false≢true}
use Rattle.utf8.specs.Whole.{told-passed}
use Rattle.utf8.proofs.whole.all_told.Goals as goal

pub returns-then-left-lt18 : goal.returns-then-left-lt18
returns-then-left-lt18 c =
    λ e. absurd (false≢true e)

pub returns-then-not-starts_so : goal.returns-then-not-starts_so
returns-then-not-starts_so c =
    λ e. absurd (false≢true e)

pub returns-then-not-ends_so : goal.returns-then-not-ends_so
returns-then-not-ends_so c =
    λ e. absurd (false≢true e)

pub blocks_follow-requires : goal.blocks_follow-requires
blocks_follow-requires c =
    (omega arith, omega arith)

pub returns : goal.returns
returns c =
    λ e. told-passed _ _ _ (omega arith) (omega arith) (sym c.starts_so.ensures ∙ c.if-not-starts_so.false) (sym c.ends_so.ensures ∙ c.if-not-ends_so.false) (c.blocks_follow.ensures e)
