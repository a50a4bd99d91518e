-- `Seen::part` meets its contract (rule 8, rule 13).
use Rattle.layout.specs.DrawSeen.{seen-room, seen-fits, seen-found}
use Rattle.layout.proofs.CutDraws.{cut-to-draw}
use Rattle.layout.proofs.seen.SeenDrawer.part.Goals as goal

pub draw_part-requires : goal.draw_part-requires
draw_part-requires c =
    let h = c.requires.1 in (
      seen-room c.args.r c.args.here c.requires.0 h.row h.entry,
      cut-to-draw c.args.r.settings c.args.text.now c.args.here.at.0 c.args.next c.args.r.most h.end h.chars c.args.gluing h.reach c.args.entry.left.0 h.left h.some h.long
          h.between h.row.inside c.requires.0.ready.line.settings.0 c.args.r.holds (seen-fits c.args.r c.args.here c.requires.0 h.row h.entry),
    )

pub returns : goal.returns
returns c =
    seen-found c.args.r c.args.here c.requires.0 c.requires.1.row c.requires.1.entry c.draw_part.ensures.events_after c.draw_part.ensures.value
    c.draw_part.auto.events
