use Rattle.pairs.specs.NextPlainLaws.{lasting_more, lasting_ends}
use Rattle.pairs.proofs.word_end.word_end.Goals as goal

pub loop-at-preserved : goal.loop-at-preserved
loop-at-preserved c =
    lasting_more c.requires.1 c.loop-at.invariant c.loop-at-test.true

pub returns : goal.returns
returns c =
    lasting_ends c.requires.1 c.loop-at.invariant c.loop-at-test.false
