-- `layout::events::write_and_draw` meets its contract (rule 10, rule 13).
use Rattle.layout.specs.DrawSeen.{all-seen}
use Rattle.layout.proofs.events.write_and_draw.Goals as goal

pub returns : goal.returns
returns c =
    let all = all-seen c.write_all.ensures.all in
    record { lines_value = c.write_all.ensures.all.lines; events_value = all.0; table_after = c.write_all.ensures.table_after; events_after = all.1 }
