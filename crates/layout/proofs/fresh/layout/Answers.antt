-- `layout::fresh::layout` meets its contract (rule 10, refusal 1, refusal 2, refusal 3, refusal 4, refusal 8).
use Rattle.std.proofs.Common.{sym, ◌∙◌}
use Rattle.layout.specs.Checking.{good-ready, good-room}
use Rattle.layout.specs.Answering.{layout-refused, layout-done}
use Rattle.laws.specs.Asked.{asked}
use Rattle.layout.proofs.fresh.layout.Goals as goal

pub returns-in_err-check_layout : goal.returns-in_err-check_layout
returns-in_err-check_layout c =
    record { value = asked _ c.from_residual.ensures.1 ∙ (layout-refused _ _ _ _ (sym c.check_layout.ensures ∙ c.in_err-check_layout.was)).0; table_after = (layout-refused _ _ _ _ (sym c.check_layout.ensures ∙ c.in_err-check_layout.was)).1 }

pub write_lines-requires : goal.write_lines-requires
write_lines-requires c =
    let good = sym c.check_layout.ensures ∙ c.in_ok-check_layout.was in record { text_ready = good-ready _ _ _ good; text_in_bounds = good-room _ _ _ good }

pub returns : goal.returns
returns c =
    record { value = (layout-done _ _ _ (sym c.check_layout.ensures ∙ c.in_ok-check_layout.was) _ c.write_lines.ensures.value _ c.write_lines.ensures.table_after).0; table_after = (layout-done _ _ _ (sym c.check_layout.ensures ∙ c.in_ok-check_layout.was) _ c.write_lines.ensures.value _ c.write_lines.ensures.table_after).1 }
