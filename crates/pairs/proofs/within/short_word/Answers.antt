-- `pairs::within::short_word` meets its contract (rule 2).
use Rattle.std.proofs.Common.{arith}
use Rattle.std.proofs.lemmas.Option.{MatchOption-at_some}
use Rattle.parser.specs.Letters.{Letter, Ends}
use Rattle.parser.specs.LetterLaws.{spells-room}
use Rattle.pairs.specs.WithinLaws.{first_short}
use Rattle.pairs.proofs.within.short_word.Goals as goal

pub overflow_add-next : goal.overflow_add-next
overflow_add-next c =
    omega (arith, spells-room _ _ _ 0 ((let found_here : Letter c.args.text.now c.args.at c.in_ok-first.first = c.in_ok-first.ensures in found_here)), c.requires)

pub skip_upto-rest-requires : goal.skip_upto-rest-requires
skip_upto-rest-requires c =
    (c.requires, (spells-room _ _ _ 0 ((let found_here : Letter c.args.text.now c.args.at c.in_ok-first.first = c.in_ok-first.ensures in found_here))).2)

pub returns : goal.returns
returns c =
    first_short _ _ _ _ _ _ _ _ ((let found_here : Letter c.args.text.now c.args.at c.in_ok-first.first = c.in_ok-first.ensures in found_here)) c.skip_upto-rest.ensures.0 ((let ended_here : Ends c.args.text.now c.skip_upto-rest.result.end.0 c.in_ok-ender.ender = MatchOption-at_some _ _ _ c.in_ok-ender.was c.ender_len.ensures in ended_here)) (omega (arith, c.skip_upto-rest.ensures.1, c.if-most-eq0.false)) _ c.scanned_at.ensures
