-- `blanks::spaces::whole_run` meets its contract (rule 8, rule 9).
use Rattle.steps.specs.DrawLaws.{whole-drawn, whole-hidden}
use Rattle.blanks.proofs.spaces.whole_run.Goals as goal

pub returns-then-look : goal.returns-then-look
returns-then-look c =
    whole-drawn _ _ _ _ _ _ _ c.draws_space-look.ensures _ c.noted_space.ensures c.if-look.true

pub returns : goal.returns
returns c =
    whole-hidden _ _ _ _ _ _ _ c.draws_space-look.ensures _ c.noted_space-2.ensures c.if-look.false
