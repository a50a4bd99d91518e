-- `again::stop::rest_behind` meets its contract (laying again).
use Rattle.std.proofs.Common.{arith}
use Rattle.again.specs.Behind.{rest_behind}
use Rattle.basis.specs.Choice.{pick}
use Rattle.basis.specs.Order.{tests}
use Rattle.again.proofs.stop.rest_behind.Goals as goal

pub returns-then-r-eq0 : goal.returns-then-r-eq0
unfolding rest_behind pick
returns-then-r-eq0 c =
    search tests

pub overflow_add-end : goal.overflow_add-end
overflow_add-end c =
    omega (arith, c.requires c.if-r-eq0.false)

pub returns : goal.returns
unfolding rest_behind pick
returns c =
    search tests
