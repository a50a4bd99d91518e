-- `strides::strides::first_word` meets its contract (rule 8).
use Rattle.std.proofs.Common.{subst, arith}
use Rattle.strides.specs.First.{FirstIs, Beginning}
use Rattle.strides.specs.OnwardLaws.{unmeasured-ready, onward-none}
use Rattle.strides.specs.FirstLaws.{first-numbers, first-onward}
use Rattle.strides.specs.GoesLaws.{goes_to}
use Rattle.strides.proofs.strides.first_word.Goals as goal

pub first_taken-requires : goal.first_taken-requires
first_taken-requires c =
    unmeasured-ready c.requires

pub stands_at-requires : goal.stands_at-requires
stands_at-requires c =
    omega (arith, c.requires.inside, c.requires.short)

pub word_measure-after-requires : goal.word_measure-after-requires
word_measure-after-requires c =
    (c.requires.place.1, c.requires.settings.1, (first-numbers c.requires (subst (FirstIs c.args.s c.args.p c.args.text.now c.args.at) c.in-Some.is c.first_taken.ensures)).1, omega arith, omega (arith, c.requires.small, c.requires.inside, c.requires.short), omega (arith, c.requires.small, c.requires.inside, c.requires.short))

pub stands_at-requires-in-Some : goal.stands_at-requires-in-Some
stands_at-requires-in-Some c =
    omega (arith, first-numbers c.requires (subst (FirstIs c.args.s c.args.p c.args.text.now c.args.at) c.in-Some.is c.first_taken.ensures))

pub returns-in-None : goal.returns-in-None
returns-in-None c =
    goes_to _ c.nothing_waits.ensures c.stands_at.ensures (onward-none c.requires)

pub returns-in-Some : goal.returns-in-Some
returns-in-Some c =
    goes_to _ c.nothing_waits-in-Some.ensures c.stands_at-in-Some.ensures (first-onward c.requires (subst (FirstIs c.args.s c.args.p c.args.text.now c.args.at) c.in-Some.is c.first_taken.ensures) _ c.word_measure-after.ensures)
