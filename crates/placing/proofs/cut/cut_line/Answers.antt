-- `placing::cut::cut_line` meets its contract (rule 8).
use Rattle.steps.specs.Knowing.{known-stands}
use Rattle.placing.proofs.cut.cut_line.Goals as goal

pub cut_part-requires : goal.cut_part-requires
cut_part-requires c =
    let x = c.in_ok-x.ensures in
    (c.requires.0, known-stands _ _ c.args.known c.in_ok-x.x c.requires.1 x.0 x.1 x.2, x.2)
