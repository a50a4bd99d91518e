-- `utf8::text::ends_told` meets its contract (refusal 4, refusal 6).
use Rattle.utf8.proofs.text.ends_told.Goals as goal

pub returns-then-ends_ascii : goal.returns-then-ends_ascii
returns-then-ends_ascii c =
    λ _. c.ends_ascii.ensures c.if-ends_ascii.true

pub returns : goal.returns
returns c =
    c.all_told.ensures
