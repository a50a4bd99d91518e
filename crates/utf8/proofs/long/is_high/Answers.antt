-- `utf8::long::is_high` meets its contract (refusal 4, rule 2).
use Rattle.std.proofs.Common.{sym, ◌∙◌, ltb, ltb-true}
use mathlib.Core.Bool.{false≢true}
use Rattle.basis.specs.Choice.{and_true}
use Rattle.basis.specs.Order.{within-true}
use Rattle.utf8.specs.Rows.{Cont}
use Rattle.utf8.specs.Long.{first_triple, hangul_triple, other_triple}
use Rattle.utf8.proofs.long.is_high.Goals as goal

pub returns-then-not-is_cont : goal.returns-then-not-is_cont
returns-then-not-is_cont c =
    λ e. absurd (false≢true e)

pub returns-then-not-is_cont-2 : goal.returns-then-not-is_cont-2
returns-then-not-is_cont-2 c =
    λ e. absurd (false≢true e)

pub returns-then-a-eq227 : goal.returns-then-a-eq227
returns-then-a-eq227 c =
    λ e. first_triple _ _ _ ((let second_here : Cont c.args.b = within-true 0x80 0xBF _ (sym c.is_cont.ensures ∙ c.if-not-is_cont.false) in second_here)) ((let third_here : Cont c.args.c = within-true 0x80 0xBF _ (sym c.is_cont-2.ensures ∙ c.if-not-is_cont-2.false) in third_here)) c.if-a-eq227.true e

pub returns-then-a-eq237 : goal.returns-then-a-eq237
returns-then-a-eq237 c =
    λ e.
    hangul_triple _ _ _ ((let second_here : Cont c.args.b = within-true 0x80 0xBF _ (sym c.is_cont.ensures ∙ c.if-not-is_cont.false) in second_here)) ((let third_here : Cont c.args.c = within-true 0x80 0xBF _ (sym c.is_cont-2.ensures ∙ c.if-not-is_cont-2.false) in third_here)) c.if-a-eq237.true (ltb-true _ _ e)

pub returns : goal.returns
returns c =
    λ e.
    let p = and_true (ltb 0xE3 c.args.a) (ltb c.args.a 0xF0) e in
    other_triple c.args.a _ _ ((let second_here : Cont c.args.b = within-true 0x80 0xBF _ (sym c.is_cont.ensures ∙ c.if-not-is_cont.false) in second_here)) ((let third_here : Cont c.args.c = within-true 0x80 0xBF _ (sym c.is_cont-2.ensures ∙ c.if-not-is_cont-2.false) in third_here)) c.if-a-eq237.false (ltb-true 0xE3 c.args.a p.0) (ltb-true c.args.a 0xF0 p.1)
