-- `rows::resumed::is_cut_again` meets its contract (rule 9).
use Rattle.std.proofs.Common.{arith, eqb-true}
use mathlib.Core.Bool.{false≢true}
use Rattle.moves.specs.FineLaws.{times_bound}
use Rattle.rows.proofs.resumed.is_cut_again.Goals as goal

pub overflow_mul-rest : goal.overflow_mul-rest
overflow_mul-rest c =
    record { fits = omega (arith, times_bound {n = 65535} {m = 64} c.args.rest.count.0 c.args.s.glyph.0 c.requires.1 c.requires.0.1) }

pub returns-then-rest-s : goal.returns-then-rest-s
returns-then-rest-s c =
    λ e. absurd (false≢true e)

pub returns-then-s-ne1 : goal.returns-then-s-ne1
returns-then-s-ne1 c =
    λ e. absurd (false≢true e)

pub returns : goal.returns
returns c =
    λ e. record { over = c.if-rest-s.false; leading = c.if-s-ne1.false; thin = eqb-true _ _ e }
