use Rattle.look.proofs.SkipTurns.{SkimmedTo, plain-to, good-to, skims_to}
use Rattle.look.proofs.skipping.skip_good.Goals as goal
use Rattle.look.proofs.skipping.skip_good.Goals.{After-skip_plain-at}

-- What is skipped when plain lines are.
skimmed : (c : After-skip_plain-at) → SkimmedTo c.args.table.now c.args.lines c.args.bytes c.args.most c.args.j c.skip_plain-at.result
skimmed c =
    plain-to _ _ _ _ _ c.requires.3 _ _ c.skip_plain-at.ensures c.loop-at.invariant

pub returns-then-last-at : goal.returns-then-last-at
returns-then-last-at c =
    skims_to _ _ _ _ _ c.requires.3 _ c.requires.1 (skimmed (goal.at.returns-then-last-at c).After-skip_plain-at) _ c.skipped_to.ensures

pub returns-then-not-line_is_good : goal.returns-then-not-line_is_good
returns-then-not-line_is_good c =
    skims_to _ _ _ _ _ c.requires.3 _ c.requires.1 (skimmed (goal.at.returns-then-not-line_is_good c).After-skip_plain-at) _ c.skipped_to-then-not-line_is_good.ensures

pub loop-at-preserved : goal.loop-at-preserved
loop-at-preserved c =
    good-to _ _ _ _ _ c.requires.3 _ c.if-last-at.false (c.line_is_good.ensures (c.if-not-line_is_good.false)) (skimmed (goal.at.loop-at-preserved c).After-skip_plain-at)
