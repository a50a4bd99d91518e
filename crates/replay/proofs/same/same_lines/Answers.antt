-- `replay::same::same_lines` meets its contract.
use Rattle.std.proofs.Common.{sym, ◌∙◌, rules}
use Rattle.replay.proofs.SameLaws.{lines_unequal, lines_same, lines_differ, lines-all, lines-done, equal-pointwise}
use Rattle.std.proofs.lemmas.Bool.{not-true, not-false}
use Rattle.replay.proofs.same.same_lines.Goals as goal

pub returns-then-recorded-n : goal.returns-then-recorded-n
returns-then-recorded-n c =
    sym (lines_unequal c.args.table.now c.args.recorded.now c.args.n c.requires c.if-recorded-n.true)

pub loop-k-init : goal.loop-k-init
loop-k-init c =
    lines-all c.args.table.now c.args.recorded.now c.args.n

pub returns-then-ne : goal.returns-then-ne
returns-then-ne c =
    let e = sym (equal-pointwise _ _) ∙ not-true _ (sym c.if-ne.ensures) in
    sym (c.loop-k.invariant ∙ lines_differ c.args.table.now c.args.recorded.now c.args.n c.loop-k.k (search rules) c.requires c.if-recorded-n.false e)

pub loop-k-preserved : goal.loop-k-preserved
loop-k-preserved c =
    let e = sym (equal-pointwise _ _) ∙ not-false _ (sym c.if-ne.ensures) in
    c.loop-k.invariant ∙ lines_same c.args.table.now c.args.recorded.now c.args.n c.loop-k.k (search rules) c.requires c.if-recorded-n.false e

pub returns : goal.returns
returns c =
    sym (c.loop-k.invariant ∙ lines-done c.args.table.now c.args.recorded.now c.args.n c.loop-k.k c.loop-k-test.false c.if-recorded-n.false)
