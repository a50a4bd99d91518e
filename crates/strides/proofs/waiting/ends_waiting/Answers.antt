-- `strides::waiting::ends_waiting` meets its contract (rule 8).
use Rattle.std.proofs.Common.{refl, sym, ap, ◌∙◌}
use Rattle.meaning.specs.declared.line.LineEnd.TheVariants.{LineBreak}
use Rattle.meaning.specs.declared.line.Measure.{Measure}
use Rattle.steps.specs.Stopping.{ends_before}
use Rattle.strides.specs.WaitLaws.{waits-cut, waits-thin}
use Rattle.strides.proofs.waiting.ends_waiting.Goals as goal

pub space_fits-requires : goal.space_fits-requires
space_fits-requires c =
    c.requires.0.place

pub returns-then-not-space_fits : goal.returns-then-not-space_fits
returns-then-not-space_fits c =
    c.ends_before.ensures ∙ waits-cut c.requires.0 _ c.requires.1 _ refl (sym c.space_fits.ensures ∙ c.if-not-space_fits.true)

pub returns : goal.returns
returns c =
    c.ends_before-2.ensures
    ∙ ap (λ (m : Measure). ends_before LineBreak m c.args.g.waits.next.0 0 c.args.g.waits.reach.0) c.noted_space-spaced.ensures
    ∙ waits-thin c.requires.0 _ c.requires.1 _ refl (sym c.space_fits.ensures ∙ c.if-not-space_fits.false) _ refl
