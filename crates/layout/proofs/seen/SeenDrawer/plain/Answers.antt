-- `Seen::plain` meets its contract (rule 13).
use Rattle.layout.specs.DrawSeen.{seen-room, seen-found, seen-plain}
use Rattle.layout.proofs.seen.SeenDrawer.plain.Goals as goal

pub draw_plain-requires : goal.draw_plain-requires
draw_plain-requires c =
    (seen-room c.args.r c.args.here c.requires.0 c.requires.1.row.row c.requires.1.entry, seen-plain c.requires.0 c.requires.1)

pub returns : goal.returns
returns c =
    seen-found c.args.r c.args.here c.requires.0 c.requires.1.row.row c.requires.1.entry c.draw_plain.ensures.events_after c.draw_plain.ensures.value
    c.draw_plain.auto.events
