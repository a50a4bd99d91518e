-- `blanks::hyphens::hyphenated` meets its contract (rule 7, rule 8).
use Rattle.std.proofs.Common.{sym, ap, ◌∙◌}
use Rattle.steps.specs.declared.step.Stepped.TheVariants.{Stop}
use Rattle.blanks.specs.HyphenLaws.{hyphen-goes, hyphen-ends, hyphen_unprinted, hyphen-stays}
use Rattle.blanks.proofs.hyphens.hyphenated.Goals as goal

pub returns-then-p : goal.returns-then-p
returns-then-p c =
    hyphen-goes c.args.s c.args.p c.args.at c.args.m c.args.reach.0 (sym c.fits.ensures ∙ c.if-fits.true) _ c.noted_print-after.ensures c.if-p.true _ c.moved_on.ensures

pub returns-then-fits : goal.returns-then-fits
returns-then-fits c =
    ap Stop c.ends_before.ensures
    ∙ hyphen-ends c.args.s c.args.p c.args.at c.args.m c.args.reach.0 (sym c.fits.ensures ∙ c.if-fits.true) _ c.noted_print-after.ensures c.if-p.false

pub returns-then-p-2 : goal.returns-then-p-2
returns-then-p-2 c =
    hyphen_unprinted c.args.s c.args.p c.args.at c.args.m c.args.reach.0 (sym c.fits.ensures ∙ c.if-fits.false) c.if-p-2.true

pub returns : goal.returns
returns c =
    ap Stop c.ends_before-2.ensures
    ∙ hyphen-stays c.args.s c.args.p c.args.at c.args.m c.args.reach.0 (sym c.fits.ensures ∙ c.if-fits.false) c.if-p-2.false
