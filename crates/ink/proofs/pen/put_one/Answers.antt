-- `ink::pen::put_one` meets its contract (rule 13).
use Rattle.std.proofs.Common.{ap, List, ℕ}
use Rattle.ink.specs.Sheet.{sheet, pen_on, drawn_on}
use Rattle.ink.proofs.pen.put_one.Goals as goal

pub returns : goal.returns
unfolding drawn_on
returns c =
    ap (λ (t : List ℕ). sheet t (pen_on c.args.pen 1 c.args.width)) c.put_event.ensures
