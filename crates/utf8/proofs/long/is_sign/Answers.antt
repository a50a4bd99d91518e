-- `utf8::long::is_sign` meets its contract (refusal 4, rule 2).
use Rattle.std.proofs.Common.{sym, ◌∙◌, arith, leb, leb-true}
use mathlib.Core.Bool.{false≢true}
use Rattle.basis.specs.Choice.{and_true}
use Rattle.basis.specs.Order.{within-true}
use Rattle.utf8.specs.Rows.{Cont}
use Rattle.utf8.specs.Long.{mark_triple, sign_triple}
use Rattle.utf8.proofs.long.is_sign.Goals as goal

pub returns-then-not-is_cont : goal.returns-then-not-is_cont
returns-then-not-is_cont c =
    λ e. absurd (false≢true e)

pub returns-then-c-lt144 : goal.returns-then-c-lt144
returns-then-c-lt144 c =
    λ e. absurd (false≢true e)

pub returns-then-c-gt167 : goal.returns-then-c-gt167
returns-then-c-gt167 c =
    λ e. absurd (false≢true e)

pub returns-then-b-eq128 : goal.returns-then-b-eq128
returns-then-b-eq128 c =
    λ _.
    mark_triple _ _ ((let third_here : Cont c.args.c = within-true 0x80 0xBF _ (sym c.is_cont.ensures ∙ c.if-not-is_cont.false) in third_here)) c.if-b-eq128.true (omega arith) (omega arith)

pub returns : goal.returns
returns c =
    λ e.
    let p = and_true (leb 0x82 c.args.b) (leb c.args.b 0xBF) e in
    sign_triple c.args.b _ ((let third_here : Cont c.args.c = within-true 0x80 0xBF _ (sym c.is_cont.ensures ∙ c.if-not-is_cont.false) in third_here)) (leb-true 0x82 c.args.b p.0) (leb-true c.args.b 0xBF p.1)
