-- `utf8::sequence::three` meets its contract (refusal 4).
use Rattle.std.proofs.Common.{sym, ◌∙◌, inl, inr, ⊎_elim, ◌≤◌, arith}
use Rattle.basis.specs.Order.{within-true}
use Rattle.utf8.specs.Rows.{Cont}
use Rattle.utf8.proofs.Reading.{outside, three_no, three_yes}
use Rattle.utf8.proofs.sequence.three.Goals as goal

pub returns-then-not-between : goal.returns-then-not-between
returns-then-not-between c =
    three_no _ _ _ (λ t. outside 0xE0 0xEF _ (sym c.between.ensures ∙ c.if-not-between.true) t.lead)

pub returns-then-not-is_cont : goal.returns-then-not-is_cont
returns-then-not-is_cont c =
    three_no _ _ _ (λ t. outside 0x80 0xBF _ (sym c.is_cont.ensures ∙ c.if-not-is_cont.true) t.second)

pub returns-then-not-is_cont-2 : goal.returns-then-not-is_cont-2
returns-then-not-is_cont-2 c =
    three_no _ _ _ (λ t. outside 0x80 0xBF _ (sym c.is_cont-2.ensures ∙ c.if-not-is_cont-2.true) t.third)

pub returns-then-cp-lt2048 : goal.returns-then-cp-lt2048
returns-then-cp-lt2048 c =
    three_no _ _ _ (λ t. omega (arith, t.long))

pub returns-then-cp-lt55296 : goal.returns-then-cp-lt55296
returns-then-cp-lt55296 c =
    let l = (let lead_here : ((0xE0 ≤ c.args.a) × (c.args.a ≤ 0xEF)) × Cont c.args.b × Cont c.args.c = (
      within-true 0xE0 0xEF _ (sym c.between.ensures ∙ c.if-not-between.false),
      within-true 0x80 0xBF _ (sym c.is_cont.ensures ∙ c.if-not-is_cont.false),
      within-true 0x80 0xBF _ (sym c.is_cont-2.ensures ∙ c.if-not-is_cont-2.false),
    ) in lead_here) in
    three_yes _ _ _ (record { lead = l.0; second = l.1; third = l.2; long = omega arith; scalar = inl (omega arith) })

pub returns-then-cp-lt57344 : goal.returns-then-cp-lt57344
returns-then-cp-lt57344 c =
    three_no _ _ _ (λ t. ⊎_elim (λ s. omega arith) (λ s. omega arith) t.scalar)

pub returns : goal.returns
returns c =
    let l = (let lead_here : ((0xE0 ≤ c.args.a) × (c.args.a ≤ 0xEF)) × Cont c.args.b × Cont c.args.c = (
      within-true 0xE0 0xEF _ (sym c.between.ensures ∙ c.if-not-between.false),
      within-true 0x80 0xBF _ (sym c.is_cont.ensures ∙ c.if-not-is_cont.false),
      within-true 0x80 0xBF _ (sym c.is_cont-2.ensures ∙ c.if-not-is_cont-2.false),
    ) in lead_here) in
    three_yes _ _ _ (record { lead = l.0; second = l.1; third = l.2; long = omega arith; scalar = inr (omega arith) })
