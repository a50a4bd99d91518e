-- `strides::next::next_stride` meets its contract (rule 8).
use Rattle.std.proofs.Common.{sym, subst, arith}
use Rattle.std.proofs.lemmas.Option.{MatchOption-at_some}
use Rattle.strides.specs.Next.{Read, Decides}
use Rattle.strides.specs.NextLaws.{plain-read, pair-numbers, fitted_decides}
use Rattle.strides.proofs.next.next_stride.Goals as goal

pub plain_pair-requires : goal.plain_pair-requires
plain_pair-requires c =
    let w = (MatchOption-at_some _ _ _ c.in-Some.is c.stride_end.ensures).word.letters in
    omega (arith, w.forward, w.inside, c.requires.0.short)

pub fitted-requires : goal.fitted-requires
fitted-requires c =
    (c.requires.0.place, c.requires.0.settings.1, (pair-numbers c.requires.0 _ (plain-read _ _ _ (MatchOption-at_some _ _ _ c.in-Some.is c.stride_end.ensures) _ c.plain_pair.ensures)).4)

pub returns : goal.returns
returns c =
    subst (Decides c.args.s c.args.p c.args.text.now c.args.at) (sym c.fitted.ensures) (fitted_decides c.requires _ (plain-read _ _ _ (MatchOption-at_some _ _ _ c.in-Some.is c.stride_end.ensures) _ c.plain_pair.ensures))
