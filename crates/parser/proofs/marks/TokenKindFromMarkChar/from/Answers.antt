-- The kind of a mark meets its contract (rule 3).
use Rattle.std.proofs.Common.{refl}
use Rattle.basis.specs.Choice.{pick}
use Rattle.parser.specs.Marks.{mark_kind}
use Rattle.parser.proofs.marks.TokenKindFromMarkChar.from.Goals as goal

pub returns-in-Tab : goal.returns-in-Tab
unfolding mark_kind pick
returns-in-Tab c =
    rw c.in-Tab.is refl

pub returns-in-SoftHyphen : goal.returns-in-SoftHyphen
unfolding mark_kind pick
returns-in-SoftHyphen c =
    rw c.in-SoftHyphen.is refl

pub returns-in-ZeroWidth : goal.returns-in-ZeroWidth
unfolding mark_kind pick
returns-in-ZeroWidth c =
    rw c.in-ZeroWidth.is refl
