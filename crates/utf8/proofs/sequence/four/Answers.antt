-- `utf8::sequence::four` meets its contract (refusal 4).
use Rattle.std.proofs.Common.{sym, ◌∙◌, arith}
use Rattle.basis.specs.Order.{within-true}
use Rattle.utf8.proofs.Reading.{outside, four_no, four_yes}
use Rattle.utf8.proofs.sequence.four.Goals as goal

pub returns-then-not-between : goal.returns-then-not-between
returns-then-not-between c =
    four_no _ _ _ _ (λ t. outside 0xF0 0xF4 _ (sym c.between.ensures ∙ c.if-not-between.true) t.lead)

pub returns-then-not-is_cont : goal.returns-then-not-is_cont
returns-then-not-is_cont c =
    four_no _ _ _ _ (λ t. outside 0x80 0xBF _ (sym c.is_cont.ensures ∙ c.if-not-is_cont.true) t.second)

pub returns-then-not-is_cont-2 : goal.returns-then-not-is_cont-2
returns-then-not-is_cont-2 c =
    four_no _ _ _ _ (λ t. outside 0x80 0xBF _ (sym c.is_cont-2.ensures ∙ c.if-not-is_cont-2.true) t.third)

pub returns-then-not-is_cont-3 : goal.returns-then-not-is_cont-3
returns-then-not-is_cont-3 c =
    four_no _ _ _ _ (λ t. outside 0x80 0xBF _ (sym c.is_cont-3.ensures ∙ c.if-not-is_cont-3.true) t.fourth)

pub returns-then-cp-lt65536 : goal.returns-then-cp-lt65536
returns-then-cp-lt65536 c =
    four_no _ _ _ _ (λ t. omega (arith, t.long))

pub returns-then-cp-gt1114111 : goal.returns-then-cp-gt1114111
returns-then-cp-gt1114111 c =
    four_no _ _ _ _ (λ t. omega (arith, t.scalar))

pub returns : goal.returns
returns c =
    four_yes _ _ _ _ (record {
      lead = within-true 0xF0 0xF4 _ (sym c.between.ensures ∙ c.if-not-between.false);
      second = within-true 0x80 0xBF _ (sym c.is_cont.ensures ∙ c.if-not-is_cont.false);
      third = within-true 0x80 0xBF _ (sym c.is_cont-2.ensures ∙ c.if-not-is_cont-2.false);
      fourth = within-true 0x80 0xBF _ (sym c.is_cont-3.ensures ∙ c.if-not-is_cont-3.false);
      long = omega arith;
      scalar = omega arith;
    })
