-- `clues::one::figures_in` meets its contract (rule 10, refusal 3, refusal 4).
use Rattle.clues.specs.Summing.{by-refused}
use Rattle.clues.proofs.one.figures_in.Goals as goal

pub returns-in-Err : goal.returns-in-Err
returns-in-Err c =
    by-refused _ _ _ _ c.in-Err.is c.refused_figures.ensures
