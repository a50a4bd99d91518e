-- `layout::events::draw_lines` meets its contract (rule 10, rule 13).
use Rattle.layout.specs.DrawSeen.{all-seen}
use Rattle.layout.proofs.events.draw_lines.Goals as goal

pub returns : goal.returns
returns c =
    let all = all-seen c.pass_lines.ensures in
    record { value = all.0; events_after = all.1 }
