-- `placing::long_word::long_word` meets its contract (rule 2, rule 8).
use Rattle.std.proofs.Common.{◌∙◌, ◌+◌, ◌≤◌, arith, length}
use Rattle.std.proofs.lemmas.Option.{IfSome_then}
use Rattle.parser.specs.Letters.{Letter}
use Rattle.parser.specs.LetterLaws.{spells-room}
use Rattle.placing.proofs.LongWordLaws.{long_scanned}
use Rattle.placing.proofs.long_word.long_word.Goals as goal

pub overflow_add-at : goal.overflow_add-at
overflow_add-at c =
    omega (arith, (let room_here : (1 ≤ c.in_ok-letter.letter) × (c.in_ok-letter.letter ≤ 4) × (c.args.at + c.in_ok-letter.letter ≤ length c.args.text.now) = spells-room _ _ _ _ ((let letter_here : Letter c.args.text.now c.args.at c.in_ok-letter.letter = c.in_ok-letter.ensures in letter_here)) in room_here), c.requires)

pub scan_word-requires : goal.scan_word-requires
scan_word-requires c =
    (c.requires.0, omega (arith, (let room_here : (1 ≤ c.in_ok-letter.letter) × (c.in_ok-letter.letter ≤ 4) × (c.args.at + c.in_ok-letter.letter ≤ length c.args.text.now) = spells-room _ _ _ _ ((let letter_here : Letter c.args.text.now c.args.at c.in_ok-letter.letter = c.in_ok-letter.ensures in letter_here)) in room_here)), omega arith)

pub returns : goal.returns
returns c =
    IfSome_then c.if_longer.result c.if_longer.ensures λ w r.
    long_scanned _ _ _ (omega (arith, c.if-most-eq0.false)) _ ((let letter_here : Letter c.args.text.now c.args.at c.in_ok-letter.letter = c.in_ok-letter.ensures in letter_here)) w (r.0 ∙ c.scan_word.ensures) r.1
