-- `moves::cursor::tab_width` meets its contract (rule 4).
use Rattle.std.proofs.Common.{◌+◌, ◌*◌, ◌/◌, ◌≤◌, arith}
use Rattle.basis.specs.Choice.{pick}
use Rattle.basis.specs.Order.{tests}
use Rattle.meaning.specs.Cursor.{tab_width}
use Rattle.moves.specs.FineLaws.{next-stop}
use Rattle.moves.proofs.cursor.tab_width.Goals as goal

pub returns-then-c-eq0 : goal.returns-then-c-eq0
unfolding tab_width pick
returns-then-c-eq0 c =
    search tests

pub overflow_add-result : goal.overflow_add-result
overflow_add-result c =
    record { fits = omega (arith, (next-stop c.args.c.position.0 c.args.c.tab.0 (omega arith))) }

pub overflow_mul-result : goal.overflow_mul-result
overflow_mul-result c =
    record { fits = omega (arith, (next-stop c.args.c.position.0 c.args.c.tab.0 (omega arith))) }

pub overflow_sub-result : goal.overflow_sub-result
overflow_sub-result c =
    (next-stop c.args.c.position.0 c.args.c.tab.0 (omega arith)).0

pub returns : goal.returns
unfolding tab_width pick
returns c =
    search tests
