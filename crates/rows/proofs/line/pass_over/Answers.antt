-- `rows::line::pass_over` meets its contract (rule 10).
use Rattle.std.proofs.Common.{refl, subst}
use Rattle.placing.specs.LayLaws.{start-ready, passes}
use Rattle.rows.specs.Hyphened.{HyphenedIs}
use Rattle.rows.proofs.HyphenLaws.{starts-at}
use Rattle.rows.proofs.line.pass_over.Goals as goal

pub hyphened_pass-requires : goal.hyphened_pass-requires
hyphened_pass-requires c =
    starts-at c.args.s c.args.p.left.0 c.args.p.spaces c.args.text.now c.args.at c.args.rest _ c.start_place-start.ensures
    (start-ready c.requires.0 c.args.p _ _ c.start_place-start.ensures refl c.requires.1 c.requires.2)

pub returns-in-Some : goal.returns-in-Some
returns-in-Some c =
    passes c.requires.0 c.args.p _ _ c.start_place-start.ensures refl _
    (subst (HyphenedIs c.args.s c.start_place-start.result c.args.text.now c.args.at c.args.rest) c.in-Some.is c.hyphened_pass.ensures)

pub run_pass-requires : goal.run_pass-requires
run_pass-requires c =
    (start-ready c.requires.0 _ _ _ c.start_place-start.ensures c.nothing_measured.ensures c.requires.1 c.requires.2, c.requires.3)

pub returns : goal.returns
returns c =
    passes c.requires.0 _ _ _ c.start_place-start.ensures c.nothing_measured.ensures _ c.run_pass.ensures
