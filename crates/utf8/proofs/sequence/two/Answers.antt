-- `utf8::sequence::two` meets its contract (refusal 4).
use Rattle.std.proofs.Common.{sym, ◌∙◌}
use Rattle.basis.specs.Order.{within-true}
use Rattle.utf8.proofs.Reading.{outside, two_no, two_yes}
use Rattle.utf8.proofs.sequence.two.Goals as goal

pub returns-then-not-between : goal.returns-then-not-between
returns-then-not-between c =
    two_no _ _ (λ t. outside 0xC2 0xDF _ (sym c.between.ensures ∙ c.if-not-between.true) t.lead)

pub returns-then-not-is_cont : goal.returns-then-not-is_cont
returns-then-not-is_cont c =
    two_no _ _ (λ t. outside 0x80 0xBF _ (sym c.is_cont.ensures ∙ c.if-not-is_cont.true) t.second)

pub returns : goal.returns
returns c =
    two_yes _ _ (record {
      lead = within-true 0xC2 0xDF _ (sym c.between.ensures ∙ c.if-not-between.false);
      second = within-true 0x80 0xBF _ (sym c.is_cont.ensures ∙ c.if-not-is_cont.false);
    })
