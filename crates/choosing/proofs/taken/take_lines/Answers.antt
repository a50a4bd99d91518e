use Rattle.std.proofs.Common.{arith}
use Rattle.rows.specs.Standing.{next-ready}
use Rattle.choosing.specs.Taking.{pass-start, pass-next, take_whole, take_part, take_next}
use Rattle.choosing.proofs.taken.take_lines.Goals as goal

pub loop-line-init : goal.loop-line-init
loop-line-init c =
    pass-start _ _ _ c.requires.ready c.at_start-stand.ensures

pub returns-then-row : goal.returns-then-row
returns-then-row c =
    take_whole _ _ _ _ c.loop-line.invariant _ c.lay_row-row.ensures c.args.h c.if-row.true (omega (arith, c.loop-line-test.true))

pub returns-then-line-h : goal.returns-then-line-h
returns-then-line-h c =
    take_next _ _ _ _ c.loop-line.invariant _ c.lay_row-row.ensures _ c.if-row.false (omega (arith, c.if-line-h.true))

pub next_stand-stand-requires : goal.next_stand-stand-requires
next_stand-stand-requires c =
    next-ready _ _ _ c.loop-line.invariant.ready _ c.lay_row-row.ensures

pub loop-line-preserved : goal.loop-line-preserved
loop-line-preserved c =
    pass-next _ _ _ _ c.loop-line.invariant _ c.lay_row-row.ensures _ c.next_stand-stand.ensures c.if-row.false

pub returns : goal.returns
returns c =
    take_part _ _ _ _ c.loop-line.invariant _ (omega (arith, c.loop-line-test.false))
