-- `rows::line::lay_twice` meets its contract (rule 10).
use Rattle.std.proofs.Common.{arith, refl, sym, subst, ◌∙◌}
use Rattle.placing.specs.LayLaws.{plain_ready, few-spaces, placed-ready, laid_twice, laid-once}
use Rattle.placing.specs.Taken.{Stretch}
use Rattle.placing.specs.Laying.{passed-stretch}
use Rattle.steps.specs.declared.step.Ended.{Ended}
use Rattle.blanks.specs.CutRests.{rest-few}
use Rattle.rows.proofs.line.lay_twice.Goals as goal

-- A rest that is cut again.
pub is_cut_again-requires : goal.is_cut_again-requires
is_cut_again-requires c =
    (c.requires.0.settings, (rest-few c.requires.0.rest c.requires.0.short).0, (rest-few c.requires.0.rest c.requires.0.short).1, omega (arith, c.requires.0.inside, c.requires.0.short))

pub lay_rest-requires : goal.lay_rest-requires
lay_rest-requires c =
    (c.requires.0, c.is_cut_again.ensures c.if-is_cut_again.true)

pub pass_over-first-requires : goal.pass_over-first-requires
pass_over-first-requires c =
    let f = plain_ready c.requires.0 _ _ c.placed_plainly.ensures refl in
    (c.requires.0, f.0, f.1, c.requires.1)

pub placed_by-p-requires : goal.placed_by-p-requires
placed_by-p-requires c =
    (c.requires.0.settings, few-spaces c.requires.0 _ _ c.placed_plainly.ensures c.pass_over-first.ensures)

pub chars_to-chars-requires : goal.chars_to-chars-requires
chars_to-chars-requires c =
    (c.requires.0.short, c.requires.0.inside, (let stretch_here : Stretch c.args.text.now c.args.at c.pass_over-first.result.next.0 = subst (λ (e : Ended). Stretch c.args.text.now c.args.at e.next.0) (sym c.pass_over-first.ensures) (passed-stretch c.args.s c.args.text.now c.args.at c.args.rest _) in stretch_here))

pub returns-then-as_measured : goal.returns-then-as_measured
returns-then-as_measured c =
    λ before.
    laid-once c.requires.0 _ _ c.placed_plainly.ensures c.pass_over-first.ensures _ _ _ refl c.placed_by-p.ensures
    before _ (sym c.as_measured.ensures ∙ c.if-as_measured.true) c.chars_to-chars.ensures refl

pub pass_over-drawn-requires : goal.pass_over-drawn-requires
pass_over-drawn-requires c =
    let g = placed-ready c.requires.0 _ _ c.placed_plainly.ensures c.pass_over-first.ensures _ c.placed_by-p.ensures in
    (c.requires.0, g.0, g.1, c.requires.1)

pub chars_to-chars-requires-2 : goal.chars_to-chars-requires-2
chars_to-chars-requires-2 c =
    (c.requires.0.short, c.requires.0.inside, subst (λ (e : Ended). Stretch c.args.text.now c.args.at e.next.0) (sym c.pass_over-drawn.ensures) (passed-stretch c.args.s c.args.text.now c.args.at c.args.rest _))

pub returns : goal.returns
returns c =
    λ before.
    laid_twice c.requires.0 _ _ c.placed_plainly.ensures c.pass_over-first.ensures _ _ _ refl c.placed_by-p.ensures
    before _ _ c.pass_over-drawn.ensures c.chars_to-chars-2.ensures refl
