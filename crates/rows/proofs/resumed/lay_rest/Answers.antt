-- `rows::resumed::lay_rest` meets its contract (rule 9, rule 10).
use Rattle.std.proofs.Common.{◌-◌, ◌/◌, ◌≤◌, sym, subst, div-le_self, arith}
use Rattle.meaning.specs.declared.line.Placed.{Placed}
use Rattle.meaning.specs.declared.line.LineEnd.TheVariants.{LineBreak}
use Rattle.placing.specs.PlaceLaws.{place_fine}
use Rattle.steps.proofs.RestLaws.{rest-inside, ender-at-most}
use Rattle.blanks.specs.CutRests.{rest-few}
use Rattle.rows.proofs.CutRestLaws.{rest-filled, rest-laid}
use Rattle.rows.proofs.resumed.lay_rest.Goals as goal

pub place_line-placed-requires : goal.place_line-placed-requires
place_line-placed-requires c =
    (c.requires.0.settings, omega arith)

pub overflow_add-reach : goal.overflow_add-reach
overflow_add-reach c =
    record { fits = omega (arith, rest-inside _ c.args.at c.args.rest c.requires.0.rest (rest-filled c.requires.0 c.requires.1 0 (omega arith)), c.requires.0.short, ender-at-most _ _ _ c.ender_at-ender.ensures) }

pub overflow_sub-fitting : goal.overflow_sub-fitting
overflow_sub-fitting c =
    (let inside_here : c.place_line-placed.result.left.0 ≤ c.args.s.width.0 = subst (λ (p : Placed). p.left.0 ≤ c.args.s.width.0) (sym c.place_line-placed.ensures) (place_fine c.args.s LineBreak 0 0 c.requires.0.settings (omega arith)).1 in inside_here)

pub nonzero_div-fitting : goal.nonzero_div-fitting
nonzero_div-fitting c =
    omega (arith, c.requires.0.settings)

pub overflow_add-fitting : goal.overflow_add-fitting
overflow_add-fitting c =
    record { fits = omega (arith, (let few_here : (c.args.s.width.0 - c.place_line-placed.result.left.0) / c.args.s.glyph.0 ≤ 4096 = omega (arith, div-le_self (c.args.s.width.0 - c.place_line-placed.result.left.0) c.args.s.glyph.0, c.requires.0.settings) in few_here)) }

pub cut_again-drawn-requires : goal.cut_again-drawn-requires
cut_again-drawn-requires c =
    (omega (arith, c.requires.0.inside, c.requires.0.short), (let few_here : (c.args.s.width.0 - c.place_line-placed.result.left.0) / c.args.s.glyph.0 ≤ 4096 = omega (arith, div-le_self (c.args.s.width.0 - c.place_line-placed.result.left.0) c.args.s.glyph.0, c.requires.0.settings) in few_here), omega (arith, c.min-taken.ensures), c.requires.0.rest.counts, omega (arith, c.min-taken.ensures, rest-few c.requires.0.rest c.requires.0.short))

pub returns : goal.returns
returns c =
    λ before.
    rest-laid c.requires.0 c.requires.1 _ c.place_line-placed.ensures _ c.ender_at-ender.ensures _ c.min-taken.ensures _ c.cut_again-drawn.ensures before
