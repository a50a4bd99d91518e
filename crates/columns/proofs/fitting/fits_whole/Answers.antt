use Rattle.std.proofs.Common.{◌+◌, ◌-◌, arith}
use Rattle.rows.specs.Standing.{next-ready}
use Rattle.columns.specs.FitTurns.{fit_start, fit_dropped, fit_last, fit_full, fit_next, fit_none}
use Rattle.columns.proofs.fitting.fits_whole.Goals as goal

pub loop-line-init : goal.loop-line-init
loop-line-init c =
    fit_start _ _ _ _ c.requires c.at_start-stand.ensures _ (omega arith)

pub returns-then-row-ne0 : goal.returns-then-row-ne0
returns-then-row-ne0 c =
    fit_dropped _ _ _ _ _ c.loop-line.invariant _ c.lay_row-row.ensures (omega (arith, c.if-row-ne0.true))

pub returns-then-row : goal.returns-then-row
returns-then-row c =
    fit_last _ _ _ _ _ c.loop-line.invariant _ c.lay_row-row.ensures (omega (arith, c.if-row-ne0.false)) c.if-row.true (omega (arith, c.loop-line-test.true))

pub returns-then-line-h : goal.returns-then-line-h
returns-then-line-h c =
    fit_full _ _ _ _ _ c.loop-line.invariant _ c.lay_row-row.ensures (omega (arith, c.if-row-ne0.false)) c.if-row.false (omega (arith, c.if-line-h.true))

pub next_stand-stand-requires : goal.next_stand-stand-requires
next_stand-stand-requires c =
    next-ready _ _ _ c.loop-line.invariant.ready _ c.lay_row-row.ensures

pub loop-line-preserved : goal.loop-line-preserved
loop-line-preserved c =
    fit_next _ _ _ _ _ c.loop-line.invariant _ c.lay_row-row.ensures (omega (arith, c.if-row-ne0.false)) _ c.next_stand-stand.ensures c.if-row.false
    (c.args.h - (c.loop-line.line + 1)) (omega (arith, c.loop-line-test.true))

pub returns : goal.returns
returns c =
    fit_none _ _ _ _ _ c.loop-line.invariant (omega (arith, c.loop-line-test.false))
