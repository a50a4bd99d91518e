-- `blanks::token::step_token` meets its contract (rule 7, rule 8, rule 9).
use Rattle.std.proofs.Common.{ap, ◌∙◌}
use Rattle.steps.specs.declared.step.Stepped.TheVariants.{Stop}
use Rattle.steps.specs.PassLaws.{line-ends, line_returns}
use Rattle.blanks.proofs.token.step_token.Goals as goal

pub returns-in-NewLine : goal.returns-in-NewLine
returns-in-NewLine c =
    ap Stop c.ends_before.ensures ∙ line-ends c.args.s c.args.p _ c.args.at c.args.x c.args.m c.requires.0.stands c.in-NewLine.is

pub returns-in-CarriageReturn : goal.returns-in-CarriageReturn
returns-in-CarriageReturn c =
    ap Stop c.ends_before-in-CarriageReturn.ensures ∙ line_returns c.args.s c.args.p _ c.args.at c.args.x c.args.m c.requires.0.stands c.in-CarriageReturn.is
