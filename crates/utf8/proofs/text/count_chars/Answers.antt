use Rattle.std.proofs.Common.{sym, ◌∙◌, arith}
use Rattle.utf8.specs.Ascii.{count-more}
use Rattle.utf8.proofs.Steps.{count-pass, count-end}
use Rattle.utf8.proofs.text.count_chars.Goals.{then-not-is_cont, else-not-is_cont}
use Rattle.utf8.proofs.text.count_chars.Goals as goal

pub loop-b-preserved : goal.loop-b-preserved
loop-b-preserved c =
    elim c.if-not-is_cont.branch [
      | then-not-is_cont w ↦ (omega (arith, count-more c.args.text.now c.loop-b.b-index c.loop-b-test.true (sym c.is_cont.ensures ∙ w.if-not-is_cont.true)), omega arith)
      | else-not-is_cont w ↦ (omega (arith, count-pass c.args.text.now c.loop-b.b-index c.loop-b-test.true (sym c.is_cont.ensures ∙ w.if-not-is_cont.false)), omega arith)
    ]

pub returns : goal.returns
returns c =
    omega (arith, count-end c.args.text.now c.loop-b.b-index c.loop-b-test.false)
