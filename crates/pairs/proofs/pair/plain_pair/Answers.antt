-- `pairs::pair::plain_pair` meets its contract (rule 2).
use Rattle.std.proofs.lemmas.Option.{MatchOption-at_some}
use Rattle.pairs.specs.PlainWords.{Stride}
use Rattle.pairs.specs.WithinLaws.{scanned_pair}
use Rattle.pairs.proofs.pair.plain_pair.Goals as goal

pub returns : goal.returns
returns c =
    scanned_pair _ _ _ ((let found_here : Stride c.args.text.now c.args.at c.in_ok-end.end = MatchOption-at_some _ _ _ c.in_ok-end.was c.stride_end.ensures in found_here)) _ c.scanned_at-word.ensures
