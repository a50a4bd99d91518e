-- `pairs::pair::pair_at` meets its contract (rule 2).
use Rattle.std.proofs.Common.{◌+◌, ◌≤◌, arith, length}
use Rattle.std.proofs.lemmas.Option.{MatchOption-at_some}
use Rattle.parser.specs.Letters.{Letter}
use Rattle.pairs.specs.Pairs.{Blank}
use Rattle.parser.specs.LetterLaws.{spells-room}
use Rattle.pairs.specs.PairLaws.{pair_is}
use Rattle.pairs.proofs.pair.pair_at.Goals as goal

pub overflow_add-next : goal.overflow_add-next
overflow_add-next c =
    omega (arith, (let within_here : c.args.at + c.in_ok-space.space + c.in_ok-letter.letter ≤ length c.args.text.now = (spells-room _ _ _ 0 ((let lettered_here : Letter c.args.text.now (c.args.at + c.in_ok-space.space) c.in_ok-letter.letter = c.in_ok-letter.ensures in lettered_here))).2 in within_here), c.requires)

pub scan_word-word-requires : goal.scan_word-word-requires
scan_word-word-requires c =
    (c.requires, (let within_here : c.args.at + c.in_ok-space.space + c.in_ok-letter.letter ≤ length c.args.text.now = (spells-room _ _ _ 0 ((let lettered_here : Letter c.args.text.now (c.args.at + c.in_ok-space.space) c.in_ok-letter.letter = c.in_ok-letter.ensures in lettered_here))).2 in within_here), omega arith)

pub overflow_cast-result-2 : goal.overflow_cast-result-2
overflow_cast-result-2 c =
    omega (arith, (let within_here : c.args.at + c.in_ok-space.space + c.in_ok-letter.letter ≤ length c.args.text.now = (spells-room _ _ _ 0 ((let lettered_here : Letter c.args.text.now (c.args.at + c.in_ok-space.space) c.in_ok-letter.letter = c.in_ok-letter.ensures in lettered_here))).2 in within_here), c.requires)

pub returns : goal.returns
returns c =
    pair_is _ _ _ _ ((let spaced_here : Blank c.args.text.now c.args.at c.in_ok-space.space = MatchOption-at_some _ _ _ c.in_ok-space.was c.space_len.ensures in spaced_here)) ((let lettered_here : Letter c.args.text.now (c.args.at + c.in_ok-space.space) c.in_ok-letter.letter = c.in_ok-letter.ensures in lettered_here)) _ c.scan_word-word.ensures
