-- `moves::space_config::spaces_width` meets its contract (rule 5).
use Rattle.std.proofs.Common.{◌*◌, ◌≤◌, arith}
use Rattle.meaning.specs.SpaceConfig.{spaces_width}
use Rattle.moves.specs.FineLaws.{times_bound}
use Rattle.moves.proofs.space_config.spaces_width.Goals as goal

pub overflow_mul-result : goal.overflow_mul-result
overflow_mul-result c =
    record { fits = omega (arith, (times_bound c.args.n c.args.sp.width.0 c.requires.1 c.requires.0.1)) }

pub overflow_add-result : goal.overflow_add-result
overflow_add-result c =
    record { fits = omega (arith, (times_bound c.args.n c.args.sp.width.0 c.requires.1 c.requires.0.1)) }

pub returns : goal.returns
unfolding spaces_width
returns c =
    omega arith
