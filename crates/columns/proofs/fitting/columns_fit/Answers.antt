-- `columns::fitting::columns_fit` meets its contract (refusal 1, refusal 2, refusal 3, refusal 4).
use Rattle.std.proofs.Common.{ap, sym, ◌∙◌}
use Rattle.std.specs.Prelude.{Ok}
use Rattle.columns.specs.ColumnChecks.{good-ready, fitting-refused, fitting-done}
use Rattle.laws.specs.Asked.{asked}
use Rattle.columns.proofs.fitting.columns_fit.Goals as goal

pub returns-in_err-check_columns : goal.returns-in_err-check_columns
returns-in_err-check_columns c =
    asked _ c.from_residual.ensures.1 ∙ fitting-refused _ _ _ _ (sym c.check_columns.ensures ∙ c.in_err-check_columns.was)

pub fits_whole-requires : goal.fits_whole-requires
fits_whole-requires c =
    good-ready _ _ _ (sym c.check_columns.ensures ∙ c.in_ok-check_columns.was)

pub returns : goal.returns
returns c =
    ap Ok c.fits_whole.ensures ∙ fitting-done _ _ _ (sym c.check_columns.ensures ∙ c.in_ok-check_columns.was)
