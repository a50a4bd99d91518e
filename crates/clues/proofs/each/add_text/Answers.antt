-- `clues::each::add_text` meets its contract.
use Rattle.std.proofs.Common.{ap, ◌∙◌, arith, get_or, rules}
use Rattle.meaning.specs.Month.{no_figures, together}
use Rattle.clues.specs.Adding.{adding-inside, adding-room, adding-next, added-text, added_figures, added-all, added-sums}
use Rattle.clues.proofs.each.add_text.Goals as goal

pub figures_in-more-requires : goal.figures_in-more-requires
figures_in-more-requires c =
    added-text _ _ _ _ _ _ _ c.requires c.loop-k.invariant c.loop-k-test.true _ c.with_width.ensures

pub offset_bounds-sums-k : goal.offset_bounds-sums-k
offset_bounds-sums-k c =
    search (rules, adding-inside _ _ _ _ _ _ _ c.requires c.loop-k.invariant c.loop-k-test.true)

pub slice_copy_out-both : goal.slice_copy_out-both
slice_copy_out-both c =
    omega (arith, adding-inside _ _ _ _ _ _ _ c.requires c.loop-k.invariant c.loop-k-test.true)

pub both-requires : goal.both-requires
both-requires c =
    adding-room _ _ _ _ _ _ _ c.requires c.loop-k.invariant c.loop-k-test.true _ _
    (added_figures _ _ _ _ _ _ _ c.requires c.loop-k.invariant c.loop-k-test.true _ c.with_width.ensures _ c.figures_in-more.ensures)

pub offset_bounds-sums-k-in-loop-k : goal.offset_bounds-sums-k-in-loop-k
offset_bounds-sums-k-in-loop-k c =
    search (rules, adding-inside _ _ _ _ _ _ _ c.requires c.loop-k.invariant c.loop-k-test.true)

pub bounds-sums-k : goal.bounds-sums-k
bounds-sums-k c =
    omega (arith, adding-inside _ _ _ _ _ _ _ c.requires c.loop-k.invariant c.loop-k-test.true)

pub loop-k-preserved : goal.loop-k-preserved
loop-k-preserved c =
    let figures = added_figures _ _ _ _ _ _ _ c.requires c.loop-k.invariant c.loop-k-test.true _ c.with_width.ensures _ c.figures_in-more.ensures in
    adding-next _ _ _ _ _ _ _ c.requires c.loop-k.invariant c.loop-k-test.true no_figures _
    (c.both.ensures ∙ ap (together (get_or c.loop-k.sums c.loop-k.k no_figures)) figures)

pub returns-clause-added : goal.returns-clause-added
returns-clause-added c =
    added-all _ _ _ _ _ _ _ c.requires c.loop-k.invariant c.loop-k-test.false

pub returns-clause-sums_added : goal.returns-clause-sums_added
returns-clause-sums_added c =
    added-sums _ _ _ _ _ _ _ c.requires c.loop-k.invariant c.loop-k-test.false
