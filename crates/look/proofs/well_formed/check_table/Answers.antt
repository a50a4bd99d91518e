-- `table::well_formed::check_table` meets its contract (refusal 5).
use Rattle.std.proofs.Common.{sym, ◌∙◌}
use Rattle.laws.specs.Asked.{asked}
use Rattle.look.specs.Looking.{look_says}
use Rattle.look.proofs.well_formed.check_table.Goals as goal

pub returns : goal.returns
returns c =
    sym (look_says 0 _ _ _ (sym c.in_ok-look_over.was ∙ c.look_over.ensures)).0

pub returns-in_err-look_over : goal.returns-in_err-look_over
returns-in_err-look_over c =
    asked _ c.from_residual.ensures.1 ∙ sym (look_says 0 _ _ _ (sym c.in_err-look_over.was ∙ c.look_over.ensures))
