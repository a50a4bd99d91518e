use Rattle.std.proofs.Common.{◌∙◌, sym, arith}
use Rattle.parser.specs.LetterLaws.{lettered_more}
use Rattle.parser.proofs.letters.skip_plain.Goals as goal

pub loop-at-preserved : goal.loop-at-preserved
loop-at-preserved c = (
  lettered_more c.args.text.now c.args.from c.loop-at.at c.loop-at.invariant.0 (omega arith) (sym c.is_plain.ensures ∙ c.if-not-is_plain.false),
  omega arith,
)
