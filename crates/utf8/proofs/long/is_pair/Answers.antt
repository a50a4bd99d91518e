-- `utf8::long::is_pair` meets its contract (refusal 4, rule 2).
use Rattle.std.proofs.Common.{sym, ◌∙◌, arith}
use Rattle.basis.specs.Order.{within-true}
use Rattle.utf8.specs.Long.{latin_couple, high_couple}
use Rattle.utf8.proofs.long.is_pair.Goals as goal

pub returns-then-a-eq194 : goal.returns-then-a-eq194
returns-then-a-eq194 c =
    λ e. latin_couple _ _ c.if-a-eq194.true (sym c.is_latin.ensures ∙ e)

pub returns : goal.returns
returns c =
    λ e.
    high_couple _ _ (omega (arith, c.requires, c.if-a-eq194.false)) (omega (arith, c.requires)) (within-true 0x80 0xBF _ (sym c.is_cont.ensures ∙ e))
