-- `columns::planning::plan_columns` meets its contract (refusal 1, refusal 2, refusal 3, refusal 4).
use Rattle.std.proofs.Common.{ap, sym, ◌∙◌}
use Rattle.std.specs.Prelude.{Ok}
use Rattle.columns.specs.ColumnChecks.{good-ready, good-utf8, planning-refused, planning-done}
use Rattle.laws.specs.Asked.{asked}
use Rattle.columns.proofs.planning.plan_columns.Goals as goal

pub returns-in_err-check_columns : goal.returns-in_err-check_columns
returns-in_err-check_columns c =
    asked _ c.from_residual.ensures.1 ∙ planning-refused _ _ _ _ (sym c.check_columns.ensures ∙ c.in_err-check_columns.was)

pub narrowest_width-requires : goal.narrowest_width-requires
narrowest_width-requires c =
    (good-ready _ _ _ (sym c.check_columns.ensures ∙ c.in_ok-check_columns.was), good-utf8 _ _ _ (sym c.check_columns.ensures ∙ c.in_ok-check_columns.was))

pub returns : goal.returns
returns c =
    ap Ok c.narrowest_width.ensures ∙ planning-done _ _ _ (sym c.check_columns.ensures ∙ c.in_ok-check_columns.was)
