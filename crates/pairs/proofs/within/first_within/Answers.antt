-- `pairs::within::first_within` meets its contract (rule 2).
use Rattle.std.proofs.Common.{◌-◌, ◌≤◌}
use Rattle.std.proofs.lemmas.Option.{MatchOption-at_some}
use Rattle.pairs.specs.PlainWords.{PlainWord}
use Rattle.pairs.specs.WithinLaws.{first_plain}
use Rattle.pairs.proofs.within.first_within.Goals as goal

pub returns-in-Some : goal.returns-in-Some
returns-in-Some c =
    let w = (let found_here : PlainWord c.args.text.now c.args.at c.in-Some.end × (c.in-Some.end - c.args.at ≤ c.args.most) = MatchOption-at_some _ _ _ c.in-Some.is c.word_within.ensures in found_here) in
    first_plain _ _ _ _ w.0 w.1 _ c.scanned_at.ensures
