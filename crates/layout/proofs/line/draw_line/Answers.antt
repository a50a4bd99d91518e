-- `layout::line::draw_line` meets its contract (rule 10, rule 13).
use Rattle.std.proofs.Common.{ℕ, ◌+◌, ap, ◌∙◌}
use Rattle.table.specs.Numbers.{put_events}
use Rattle.layout.specs.EventsFrom.{place-room, place-events, place-length}
use Rattle.layout.proofs.line.draw_line.Goals as goal

pub draw_pass-requires : goal.draw_pass-requires
draw_pass-requires c =
    (place-room c.args.s c.args.text.now c.args.stand c.args.e _ c.start_place-start.ensures c.args.k c.requires.room, c.requires.known)

pub returns : goal.returns
returns c =
    let es = place-events c.args.s c.args.text.now c.args.stand c.args.e _ c.start_place-start.ensures in
    let n = place-length c.args.s c.args.text.now c.args.stand c.args.e _ c.start_place-start.ensures in record { events_after = c.draw_pass.ensures.events_after ∙ ap (put_events c.args.events.now c.args.k) es; value = c.draw_pass.ensures.value ∙ ap (λ (m : ℕ). c.args.k + m) n }
