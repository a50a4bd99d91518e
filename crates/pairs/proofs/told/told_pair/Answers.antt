-- `pairs::told::told_pair` meets its contract (rule 2).
use Rattle.std.proofs.Common.{◌≡◌, sym, ◌∙◌, true, ◌+◌, ◌≤◌, arith, length}
use Rattle.std.proofs.lemmas.Option.{MatchOption-at_some}
use Rattle.parser.specs.Ascii.{space_at, space-inside}
use Rattle.parser.specs.Letters.{Letter}
use Rattle.parser.specs.LetterLaws.{spells-room}
use Rattle.pairs.specs.Told.{ToldWord, told-read}
use Rattle.pairs.proofs.told.told_pair.Goals as goal

pub overflow_add-from : goal.overflow_add-from
overflow_add-from c =
    omega (arith, space-inside _ _ ((let spaced_here : space_at c.args.text.now c.args.at ≡ true = sym c.space_at.ensures ∙ c.if-space_at.true in spaced_here)), c.requires)

pub overflow_add-next : goal.overflow_add-next
overflow_add-next c =
    omega (arith, (let room_here : c.args.at + 1 + c.in-Some.letter ≤ length c.args.text.now = (spells-room _ _ _ 0 ((let lettered_here : Letter c.args.text.now (c.args.at + 1) c.in-Some.letter = c.in-Some.ensures in lettered_here))).2 in room_here), c.requires)

pub told_rest-requires : goal.told_rest-requires
told_rest-requires c =
    (c.requires, (let room_here : c.args.at + 1 + c.in-Some.letter ≤ length c.args.text.now = (spells-room _ _ _ 0 ((let lettered_here : Letter c.args.text.now (c.args.at + 1) c.in-Some.letter = c.in-Some.ensures in lettered_here))).2 in room_here))

pub returns-in-Some-told_rest : goal.returns-in-Some-told_rest
returns-in-Some-told_rest c =
    told-read _ _ _ _ _ _ ((let spaced_here : space_at c.args.text.now c.args.at ≡ true = sym c.space_at.ensures ∙ c.if-space_at.true in spaced_here)) ((let lettered_here : Letter c.args.text.now (c.args.at + 1) c.in-Some.letter = c.in-Some.ensures in lettered_here)) ((let found_here : ToldWord c.args.text.now (c.args.at + 1 + c.in-Some.letter) c.in-Some-told_rest.told.end c.in-Some-told_rest.told.conts c.in-Some-told_rest.told.glues = MatchOption-at_some _ _ _ c.in-Some-told_rest.is c.told_rest.ensures in found_here)) _ c.scanned_at-word.ensures
