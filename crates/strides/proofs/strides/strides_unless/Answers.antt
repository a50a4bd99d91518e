-- `strides::strides::strides_unless` meets its contract (rule 8).
use Rattle.std.proofs.Common.{arith}
use Rattle.strides.specs.OnwardLaws.{onward-none}
use Rattle.strides.specs.GoesLaws.{goes_to, rest-none, goes-rest, stays_foreseen, nothing_foreseen}
use Rattle.strides.proofs.strides.strides_unless.Goals as goal

pub words_on-requires : goal.words_on-requires
words_on-requires c =
    rest-none c.requires.0 (c.is_free.ensures c.if-is_free.true).0

pub returns-then-is_free-clause-goes : goal.returns-then-is_free-clause-goes
returns-then-is_free-clause-goes c =
    goes-rest c.requires.0 (c.is_free.ensures c.if-is_free.true).0 c.words_on.ensures

pub returns-then-is_free-clause-foresees_from : goal.returns-then-is_free-clause-foresees_from
returns-then-is_free-clause-foresees_from c =
    nothing_foreseen c.args.s c.words_on.result.place c.args.text.now c.words_on.result.at.0 c.args.rest c.args.seen (c.is_free.ensures c.if-is_free.true).1

pub stands_at-requires : goal.stands_at-requires
stands_at-requires c =
    omega (arith, c.requires.0.inside, c.requires.0.short)

pub returns-clause-goes : goal.returns-clause-goes
returns-clause-goes c =
    goes_to _ c.nothing_waits.ensures c.stands_at.ensures (onward-none c.requires.0)

pub returns-clause-foresees_from : goal.returns-clause-foresees_from
returns-clause-foresees_from c =
    stays_foreseen c.args.s c.args.p c.args.text.now c.args.at c.args.rest c.args.m c.args.seen _ _ c.stands_at.ensures c.requires.1
