-- `placing::alignment::shared_out` meets its contract (rule 6).
use Rattle.std.proofs.Common.{◌*◌, ◌≤◌, arith, refl}
use Rattle.moves.specs.FineLaws.{times_bound}
use Rattle.meaning.specs.Alignment.{justified}
use Rattle.placing.proofs.alignment.shared_out.Goals as goal

pub overflow_mul-all : goal.overflow_mul-all
overflow_mul-all c =
    record { fits = omega (arith, (let grown_here : c.args.n * c.args.s.glyph.0 ≤ 65535 * 64 = times_bound c.args.n c.args.s.glyph.0 c.requires.3 c.requires.0.1 in grown_here)) }

pub overflow_add-all : goal.overflow_add-all
overflow_add-all c =
    record { fits = omega (arith, (let grown_here : c.args.n * c.args.s.glyph.0 ≤ 65535 * 64 = times_bound c.args.n c.args.s.glyph.0 c.requires.3 c.requires.0.1 in grown_here)) }

pub returns : goal.returns
unfolding justified
returns c =
    refl
