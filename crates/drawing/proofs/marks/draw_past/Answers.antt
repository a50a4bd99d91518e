-- `drawing::marks::draw_past` meets its contract (rule 8, rule 13).
use Rattle.drawing.proofs.OnwardEvents.{stays_foreseen, drew-none, strode_to}
use Rattle.drawing.proofs.marks.draw_past.Goals as goal

pub returns-then-g : goal.returns-then-g
returns-then-g c =
    record {
      strode = strode_to c.inked_at.ensures (drew-none c.requires.0);
      foresees_from = stays_foreseen c.args.s c.args.g.place c.args.text.now c.args.g.at c.args.rest c.args.seen c.args.g.pen _ c.inked_at.ensures c.requires.1;
    }

pub returns-in-None : goal.returns-in-None
returns-in-None c =
    record {
      strode = strode_to c.inked_at-in-None.ensures (drew-none c.requires.0);
      foresees_from = stays_foreseen c.args.s c.args.g.place c.args.text.now c.args.g.at c.args.rest c.args.seen c.args.g.pen _ c.inked_at-in-None.ensures c.requires.1;
    }
