-- `placing::quick::first_known` meets its contract (rule 8, rule 10).
use Rattle.pairs.specs.WithinLaws.{first-kept}
use Rattle.steps.specs.Knowing.{known-stands}
use Rattle.placing.proofs.quick.first_known.Goals as goal

pub returns-in-Some : goal.returns-in-Some
returns-in-Some c =
    let x = c.in-Some.ensures in
    first-kept _ _ _ c.in-Some.x (known-stands _ _ c.args.known c.in-Some.x c.requires.2 x.0 x.1 x.2) x.2 _ c.kept_within.ensures

pub returns : goal.returns
returns c =
    c.first_within.ensures
