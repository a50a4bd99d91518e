-- `drawing::striding::draw_first` meets its contract (rule 8, rule 13).
use Rattle.std.proofs.Common.{subst}
use Rattle.strides.specs.First.{FirstIs}
use Rattle.drawing.proofs.OnwardEvents.{drew-none, drew-first, strode_to}
use Rattle.drawing.proofs.striding.draw_first.Goals as goal

pub returns-in-None : goal.returns-in-None
returns-in-None c =
    strode_to c.inked_at.ensures (drew-none c.requires)

pub returns-in-Some : goal.returns-in-Some
returns-in-Some c =
    strode_to c.inked_at-in-Some.ensures (drew-first c.requires c.args.events.now _ _ (subst (FirstIs c.args.s c.args.p c.args.text.now c.args.at) c.in-Some.is c.first_taken.ensures) c.put_one-printed.ensures)
