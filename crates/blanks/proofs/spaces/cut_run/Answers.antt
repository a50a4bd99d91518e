-- `blanks::spaces::cut_run` meets its contract (rule 8, rule 9).
use Rattle.std.proofs.Common.{◌*◌, ◌/◌, ◌≤◌, arith}
use Rattle.steps.specs.RunLaws.{cut-some, cut-single, cut-numbers, cut-fewer, cut-answer}
use Rattle.blanks.proofs.spaces.cut_run.Goals as goal

pub nonzero_div-single : goal.nonzero_div-single
nonzero_div-single c =
    cut-some c.requires

pub nonzero_div-fitting : goal.nonzero_div-fitting
nonzero_div-fitting c =
    cut-single c.requires

pub overflow_add-fitting : goal.overflow_add-fitting
overflow_add-fitting c =
    record { fits = omega (arith, cut-numbers c.requires c.room.result c.room.ensures) }

pub noted_space-measure-requires : goal.noted_space-measure-requires
noted_space-measure-requires c =
    omega (arith, cut-numbers c.requires c.room.result c.room.ensures, c.requires.ready)

pub held_rest-rest-requires : goal.held_rest-rest-requires
held_rest-rest-requires c =
    omega (arith, c.min-taken.ensures, cut-fewer c.requires)

pub returns : goal.returns
returns c =
    cut-answer c.requires _ _ _ _ _ c.room.ensures c.min-taken.ensures c.noted_space-measure.ensures c.part_of-part.ensures
    c.held_rest-rest.ensures
