-- `steps::words::unfit_word` meets its contract (rule 8).
use Rattle.std.proofs.Common.{sym, ap, ◌∙◌}
use Rattle.steps.specs.declared.step.Stepped.TheVariants.{Stop}
use Rattle.steps.specs.WordLaws.{WordAt, word-at, word_drops, moved-waits}
use Rattle.steps.proofs.words.unfit_word.Goals as goal

pub returns-then-waits : goal.returns-then-waits
returns-then-waits c =
    ap Stop c.ends_before.ensures
    ∙ moved-waits c.args.s c.args.p _ c.args.at c.args.x c.args.m (word-at _ _ _ c.requires.0.stands c.requires.1) c.requires.2 c.requires.3 c.requires.4 (sym c.waits.ensures ∙ c.if-waits.true)

pub returns : goal.returns
returns c =
    ap Stop c.ends_before-2.ensures
    ∙ word_drops c.args.s c.args.p _ c.args.at c.args.x c.args.m (word-at _ _ _ c.requires.0.stands c.requires.1) c.requires.2 c.requires.3 c.requires.4 (sym c.waits.ensures ∙ c.if-waits.false)
