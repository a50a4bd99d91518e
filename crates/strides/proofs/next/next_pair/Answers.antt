-- `strides::next::next_pair` meets its contract (rule 8).
use Rattle.std.proofs.Common.{sym, subst}
use Rattle.std.proofs.lemmas.Option.{MatchOption-at_some}
use Rattle.strides.specs.Next.{Read, Decides}
use Rattle.strides.specs.NextLaws.{pair-numbers, fitted_decides}
use Rattle.strides.proofs.next.next_pair.Goals as goal

pub fitted-requires : goal.fitted-requires
fitted-requires c =
    (c.requires.0.0.place, c.requires.0.0.settings.1, (pair-numbers c.requires.0.0 _ (MatchOption-at_some _ _ _ c.in-Some.is c.requires.1)).4)

pub returns : goal.returns
returns c =
    subst (Decides c.args.s c.args.p c.args.text.now c.args.at) (sym c.fitted.ensures) (fitted_decides c.requires.0 _ (MatchOption-at_some _ _ _ c.in-Some.is c.requires.1))
