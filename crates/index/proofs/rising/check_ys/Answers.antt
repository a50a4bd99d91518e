use Rattle.std.proofs.Common.{◌-◌, sym, ◌∙◌, rules}
use Rattle.laws.specs.Indexes.{y_at}
use Rattle.index.proofs.InOrder.{order-start, order-on, order_bad, order-end}
use Rattle.index.proofs.ReadYs.{read_lower}
use Rattle.index.proofs.rising.check_ys.Goals as goal

pub loop-k-init : goal.loop-k-init
loop-k-init c =
    order-start c.args.index.now

pub returns-then-index-k : goal.returns-then-index-k
returns-then-index-k c =
    sym
    (order_bad c.args.index.now c.loop-k.k c.loop-k-test.true
    (read_lower (y_at c.args.index.now c.loop-k.k) (y_at c.args.index.now (c.loop-k.k - 1)) _ (search rules) (search rules) c.if-index-k.true))
    ∙ c.loop-k.invariant

pub loop-k-preserved : goal.loop-k-preserved
loop-k-preserved c =
    sym
    (order-on c.args.index.now c.loop-k.k c.loop-k-test.true
    (read_lower (y_at c.args.index.now c.loop-k.k) (y_at c.args.index.now (c.loop-k.k - 1)) _ (search rules) (search rules) c.if-index-k.false))
    ∙ c.loop-k.invariant

pub returns : goal.returns
returns c =
    sym (order-end c.args.index.now c.loop-k.k c.loop-k-test.false) ∙ c.loop-k.invariant
