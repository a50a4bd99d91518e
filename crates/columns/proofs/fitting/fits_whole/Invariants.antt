-- `columns::fitting::fits_whole` meets its contract. The invariant: the text fits exactly if the lines from here on fit those that may
-- still be laid.
-- Rule 10.
use Rattle.std.proofs.Common.{◌-◌}
use Rattle.columns.specs.FitTurns.{Fitting}
use Rattle.columns.proofs.fitting.fits_whole.Given as goal

abbrev pub invariant-loop-line : goal.invariant-loop-line
invariant-loop-line l = Fitting l.s l.text l.h (l.h - l.line) l.stand
