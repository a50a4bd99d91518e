use Rattle.std.proofs.Common.{refl, ◌/◌, ◌≤◌, div-le_self, arith}
use Rattle.std.proofs.lemmas.Option.{MatchOption-at_some}
use Rattle.parser.specs.Scanning.{word_of}
use Rattle.pairs.specs.Pairs.{PairAt}
use Rattle.placing.specs.Quick.{Counts}
use Rattle.placing.proofs.CountingLaws.{counting-first, pair-within, counting_more, counting-waits}
use Rattle.placing.proofs.quick.count_words.Goals as goal

pub first_known-requires : goal.first_known-requires
first_known-requires c =
    (c.requires.0.short, omega (arith, div-le_self c.args.s.width.0 c.args.s.glyph.0, c.requires.0.settings.2), c.requires.1)

pub loop-pair-init : goal.loop-pair-init
loop-pair-init c =
    counting-first _ (MatchOption-at_some _ _ _ c.in_ok-first.was c.first_known.ensures)

pub overflow_cast-end : goal.overflow_cast-end
overflow_cast-end c =
    let r = ((let so_far_here : Counts c.args.s c.args.text.now c.args.at c.loop-pair.end c.loop-pair.columns c.loop-pair.spaces = c.loop-pair.invariant.counts _ c.requires.0 refl in so_far_here)).plain.ready in
    record { fits = omega (arith, r.inside, c.requires.0.short) }

pub plain_pair-requires : goal.plain_pair-requires
plain_pair-requires c =
    c.requires.0.short

-- The rest of the line.
pub count_on-requires : goal.count_on-requires
count_on-requires c =
    (c.requires.0, refl, c.loop-pair.invariant)

pub returns-in_default : goal.returns-in_default
returns-in_default c =
    c.count_on.ensures

pub overflow_sub-most : goal.overflow_sub-most
overflow_sub-most c =
    c.loop-pair.invariant.fits

pub returns-then-most-columns : goal.returns-then-most-columns
returns-then-most-columns c =
    counting-waits c.requires.0 refl c.loop-pair.invariant _ _ c.in-Some.pair.word ((let found_here : PairAt c.args.text.now c.loop-pair.end c.in-Some.pair.from.0 c.in-Some.pair.looked.0 (word_of c.in-Some.pair.word) = MatchOption-at_some _ _ _ c.in-Some.is c.plain_pair.ensures in found_here)) (omega (arith, c.if-most-columns.true)) _ c.counted_at.ensures

pub overflow_add-columns : goal.overflow_add-columns
overflow_add-columns c =
    record { fits = omega (arith, c.if-most-columns.false, (let few_here : c.args.s.width.0 / c.args.s.glyph.0 ≤ 4096 = omega (arith, div-le_self c.args.s.width.0 c.args.s.glyph.0, c.requires.0.settings.2) in few_here)) }

pub overflow_add-columns-in-loop-pair : goal.overflow_add-columns-in-loop-pair
overflow_add-columns-in-loop-pair c =
    record { fits = omega (arith, c.if-most-columns.false, (let few_here : c.args.s.width.0 / c.args.s.glyph.0 ≤ 4096 = omega (arith, div-le_self c.args.s.width.0 c.args.s.glyph.0, c.requires.0.settings.2) in few_here)) }

pub overflow_add-spaces : goal.overflow_add-spaces
overflow_add-spaces c =
    record { fits = omega (arith, pair-within _ ((let found_here : PairAt c.args.text.now c.loop-pair.end c.in-Some.pair.from.0 c.in-Some.pair.looked.0 (word_of c.in-Some.pair.word) = MatchOption-at_some _ _ _ c.in-Some.is c.plain_pair.ensures in found_here)), c.requires.0.short) }

pub overflow_add-spaces-in-loop-pair : goal.overflow_add-spaces-in-loop-pair
overflow_add-spaces-in-loop-pair c =
    let r = ((let so_far_here : Counts c.args.s c.args.text.now c.args.at c.loop-pair.end c.loop-pair.columns c.loop-pair.spaces = c.loop-pair.invariant.counts _ c.requires.0 refl in so_far_here)).plain.ready in
    record { fits = omega (arith, pair-within _ ((let found_here : PairAt c.args.text.now c.loop-pair.end c.in-Some.pair.from.0 c.in-Some.pair.looked.0 (word_of c.in-Some.pair.word) = MatchOption-at_some _ _ _ c.in-Some.is c.plain_pair.ensures in found_here)), r.small, r.inside, c.requires.0.short) }

pub loop-pair-smaller : goal.loop-pair-smaller
loop-pair-smaller c =
    omega (arith, pair-within _ ((let found_here : PairAt c.args.text.now c.loop-pair.end c.in-Some.pair.from.0 c.in-Some.pair.looked.0 (word_of c.in-Some.pair.word) = MatchOption-at_some _ _ _ c.in-Some.is c.plain_pair.ensures in found_here)))

pub loop-pair-preserved : goal.loop-pair-preserved
loop-pair-preserved c =
    counting_more c.in-Some.pair.word ((let found_here : PairAt c.args.text.now c.loop-pair.end c.in-Some.pair.from.0 c.in-Some.pair.looked.0 (word_of c.in-Some.pair.word) = MatchOption-at_some _ _ _ c.in-Some.is c.plain_pair.ensures in found_here)) c.loop-pair.invariant (omega (arith, c.if-most-columns.false))
