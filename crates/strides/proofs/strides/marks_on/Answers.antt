-- `strides::strides::marks_on` meets its contract (rule 8).
use Rattle.std.proofs.Common.{subst, arith}
use Rattle.steps.specs.Unrolled.{nothing_resumed}
use Rattle.strides.specs.Strides.{Onward}
use Rattle.strides.specs.Marks.{Joining, JoinedIs}
use Rattle.strides.specs.MarkLaws.{joined-onward, joined_numbers, joined-full}
use Rattle.strides.specs.OnwardLaws.{unmeasured-ready}
use Rattle.strides.specs.GoesLaws.{goes_to, goes-full}
use Rattle.strides.proofs.strides.marks_on.Goals as goal

pub next_joined-requires : goal.next_joined-requires
next_joined-requires c =
    (unmeasured-ready c.requires.0, c.requires.1)

pub stands_at-requires : goal.stands_at-requires
stands_at-requires c =
    let r = (c.last_zero-to.ensures c.args.s c.args.p c.args.m c.requires.1 c.requires.0).ready in omega (arith, r.inside, r.short)

pub word_measure-after-requires : goal.word_measure-after-requires
word_measure-after-requires c =
    let n = joined_numbers c.requires.0 (subst (JoinedIs c.args.s c.args.p c.args.text.now c.args.at) c.in-Some.is c.next_joined.ensures) in
    (c.requires.0.place.1, c.requires.0.settings.1, n.3, n.2, omega (arith, c.requires.0.small, c.requires.0.inside, c.requires.0.short), omega (arith, c.requires.0.small, c.requires.0.inside, c.requires.0.short))

pub stands_at-requires-in-Some : goal.stands_at-requires-in-Some
stands_at-requires-in-Some c =
    (joined_numbers c.requires.0 (subst (JoinedIs c.args.s c.args.p c.args.text.now c.args.at) c.in-Some.is c.next_joined.ensures)).1

pub returns-in-None : goal.returns-in-None
returns-in-None c =
    record { goes = goes_to _ c.nothing_waits.ensures c.stands_at.ensures (c.last_zero-to.ensures c.args.s c.args.p c.args.m c.requires.1 c.requires.0); empty_value = goes-full _ _ _ _ c.stands_at.ensures c.requires.1 }

pub returns-in-Some : goal.returns-in-Some
returns-in-Some c =
    record { goes = goes_to _ c.nothing_waits-in-Some.ensures c.stands_at-in-Some.ensures (joined-onward c.requires.0 (subst (JoinedIs c.args.s c.args.p c.args.text.now c.args.at) c.in-Some.is c.next_joined.ensures) _ c.word_measure-after.ensures); empty_value = goes-full _ _ _ _ c.stands_at-in-Some.ensures (joined-full c.requires.0 (subst (JoinedIs c.args.s c.args.p c.args.text.now c.args.at) c.in-Some.is c.next_joined.ensures)) }
