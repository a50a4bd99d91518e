-- `Seen::line` meets its contract (rule 13).
use Rattle.layout.specs.DrawSeen.{seen-ready, seen-line}
use Rattle.layout.proofs.seen.SeenDrawer.line.Goals as goal

pub draw_line-requires : goal.draw_line-requires
draw_line-requires c =
    seen-ready c.requires

pub returns : goal.returns
returns c =
    seen-line c.requires c.draw_line.ensures.events_after c.draw_line.ensures.value c.draw_line.auto.events
