use Rattle.std.proofs.Common.{arith, ◌∙◌}
use Rattle.rows.specs.Standing.{next-ready, further, stays}
use Rattle.clues.specs.Tallying.{tally_start, tally_low, tally_last, tally_more}
use Rattle.clues.proofs.tally.laid_figures.Goals as goal

pub loop-s-init : goal.loop-s-init
loop-s-init c =
    tally_start _ _ _ _ c.no_lines-tally.ensures c.requires c.at_start-stand.ensures

pub with_line-tally-requires : goal.with_line-tally-requires
with_line-tally-requires c =
    tally_low _ _ _ _ c.loop-s.invariant

pub returns-then-row : goal.returns-then-row
returns-then-row c =
    c.tally_figures.ensures ∙ tally_last _ _ _ _ c.loop-s.invariant _ c.lay_row-row.ensures _ c.with_line-tally.ensures c.if-row.true

pub next_stand-stand-requires : goal.next_stand-stand-requires
next_stand-stand-requires c =
    next-ready _ _ _ c.loop-s.invariant.counted.ready _ c.lay_row-row.ensures

pub loop-s-smaller : goal.loop-s-smaller
loop-s-smaller c =
    omega (arith, further _ _ _ c.loop-s.invariant.counted.ready _ c.lay_row-row.ensures _ c.next_stand-stand.ensures c.if-row.false, stays _ _ _ c.loop-s.invariant.counted.ready _ c.lay_row-row.ensures _ c.next_stand-stand.ensures)

pub loop-s-preserved : goal.loop-s-preserved
loop-s-preserved c =
    tally_more _ _ _ _ c.loop-s.invariant _ c.lay_row-row.ensures _ c.with_line-tally.ensures _ c.next_stand-stand.ensures c.if-row.false
