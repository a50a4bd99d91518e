-- `placing::long_word::long_known` meets its contract (rule 2, rule 8).
use Rattle.std.proofs.Common.{◌∙◌, arith}
use Rattle.std.proofs.lemmas.Option.{IfSome_then}
use Rattle.steps.specs.Knowing.{known-stands}
use Rattle.placing.proofs.LongWordLaws.{long-known}
use Rattle.placing.proofs.long_word.long_known.Goals as goal

pub returns : goal.returns
returns c =
    let x = c.in_ok-x.ensures in
    IfSome_then c.if_longer.result c.if_longer.ensures λ w r.
    long-known _ _ _ (omega (arith, c.if-most-eq0.false)) c.in_ok-x.x
    (known-stands _ _ c.args.known c.in_ok-x.x c.requires x.0 x.1 x.2) x.2 w (r.0 ∙ c.from.ensures) r.1
