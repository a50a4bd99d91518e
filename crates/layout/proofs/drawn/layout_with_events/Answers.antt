-- `layout::drawn::layout_with_events` meets its contract (rule 10, rule 13, refusal 1, refusal 2, refusal 3, refusal 4, refusal 8).
use Rattle.std.proofs.Common.{sym, ◌∙◌}
use Rattle.layout.specs.Checking.{good-ready, good-room}
use Rattle.layout.specs.Answering.{lines-refused, events-refused, drawing-done}
use Rattle.laws.specs.Asked.{asked}
use Rattle.layout.proofs.drawn.layout_with_events.Goals as goal

pub returns-in_err-check_layout : goal.returns-in_err-check_layout
returns-in_err-check_layout c =
    record { value = asked _ c.from_residual.ensures.1 ∙ (lines-refused _ _ _ _ _ (sym c.check_layout.ensures ∙ c.in_err-check_layout.was)).0; table_after = (lines-refused _ _ _ _ _ (sym c.check_layout.ensures ∙ c.in_err-check_layout.was)).1.0; events_after = (lines-refused _ _ _ _ _ (sym c.check_layout.ensures ∙ c.in_err-check_layout.was)).1.1 }

pub check_events-requires : goal.check_events-requires
check_events-requires c =
    good-ready _ _ _ (sym c.check_layout.ensures ∙ c.in_ok-check_layout.was)

pub returns-in_err-check_events : goal.returns-in_err-check_events
returns-in_err-check_events c =
    record { value = asked _ c.from_residual-in_err-check_events.ensures.1 ∙ (events-refused _ _ _ _ (sym c.check_layout.ensures ∙ c.in_ok-check_layout.was) _ (sym c.check_events.ensures ∙ c.in_err-check_events.was)).0; table_after = (events-refused _ _ _ _ (sym c.check_layout.ensures ∙ c.in_ok-check_layout.was) _ (sym c.check_events.ensures ∙ c.in_err-check_events.was)).1.0; events_after = (events-refused _ _ _ _ (sym c.check_layout.ensures ∙ c.in_ok-check_layout.was) _ (sym c.check_events.ensures ∙ c.in_err-check_events.was)).1.1 }

pub write_and_draw-both-requires : goal.write_and_draw-both-requires
write_and_draw-both-requires c =
    let good = sym c.check_layout.ensures ∙ c.in_ok-check_layout.was in record { text_ready = good-ready _ _ _ good; text_in_bounds = good-room _ _ _ good }

pub returns : goal.returns
returns c =
    record {
      value = (drawing-done _ _ _ _ (sym c.check_layout.ensures ∙ c.in_ok-check_layout.was) (sym c.check_events.ensures ∙ c.in_ok-check_events.was)
          _ _ c.write_and_draw-both.ensures.lines_value c.write_and_draw-both.ensures.events_value _ c.write_and_draw-both.ensures.table_after _ c.write_and_draw-both.ensures.events_after).0;
      table_after = (drawing-done _ _ _ _ (sym c.check_layout.ensures ∙ c.in_ok-check_layout.was) (sym c.check_events.ensures ∙ c.in_ok-check_events.was)
          _ _ c.write_and_draw-both.ensures.lines_value c.write_and_draw-both.ensures.events_value _ c.write_and_draw-both.ensures.table_after _ c.write_and_draw-both.ensures.events_after).1.0;
      events_after = (drawing-done _ _ _ _ (sym c.check_layout.ensures ∙ c.in_ok-check_layout.was) (sym c.check_events.ensures ∙ c.in_ok-check_events.was)
          _ _ c.write_and_draw-both.ensures.lines_value c.write_and_draw-both.ensures.events_value _ c.write_and_draw-both.ensures.table_after _ c.write_and_draw-both.ensures.events_after).1.1;
    }
