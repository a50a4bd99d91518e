-- `again::relay::lay_again` meets its contract (refusal 8, laying again).
use Rattle.std.proofs.Common.{sym, ◌∙◌}
use Rattle.std.specs.Prelude.{Ok}
use Rattle.look.specs.Looking.{look_says}
use Rattle.again.specs.Answering.{refused-before}
use Rattle.laws.specs.Asked.{asked}
use Rattle.again.proofs.relay.lay_again.Goals as goal

pub lay_lines-requires : goal.lay_lines-requires
lay_lines-requires c =
    let says = look_says _ _ _ (Ok c.in_ok-first.first) (sym c.in_ok-first.was ∙ c.check_before.ensures) in
    (says.0, says.1)

pub returns-in_err-first : goal.returns-in_err-first
returns-in_err-first c =
    record { value = asked _ c.from_residual.ensures.1 ∙ (refused-before _ _ _ _ _ _ (look_says _ _ _ _ (sym c.in_err-first.was ∙ c.check_before.ensures))).0; table_after = (refused-before _ _ _ _ _ _ (look_says _ _ _ _ (sym c.in_err-first.was ∙ c.check_before.ensures))).1 }
