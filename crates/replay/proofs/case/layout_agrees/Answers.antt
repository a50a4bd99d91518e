-- `replay::case::layout_agrees` meets its contract.
use Rattle.std.proofs.Common.{sym, ◌∙◌}
use Rattle.std.proofs.lemmas.Bool.{not-false}
use Rattle.replay.proofs.CallLaws.{layout_agreed}
use Rattle.replay.proofs.SameLaws.{equal-pointwise}
use Rattle.replay.proofs.case.layout_agrees.Goals as goal

pub returns : goal.returns
returns c =
    λ e.
    layout_agreed c.args.s c.args.text.now _ _ c.layout_with_events.new.table c.layout_with_events.new.events c.args.lines.now c.args.events.now c.in-Ok.laid
    c.in-Ok.ensures.value c.in-Ok.ensures.table_after c.in-Ok.ensures.events_after
    (sym c.same_lines.ensures ∙ e)
    (sym (equal-pointwise _ _) ∙ not-false _ (sym c.if-ne.ensures))
