-- `again::rest::held_of` meets its contract (refusal 5).
use Rattle.std.proofs.Common.{sym, ◌∙◌, arith}
use Rattle.again.proofs.RestLaws.{resumed-none, ends_there, few-chars, resumed-some}
use Rattle.again.proofs.rest.held_of.Goals as goal

pub returns-then-has_no_rest : goal.returns-then-has_no_rest
returns-then-has_no_rest c =
    resumed-none _ _ (sym c.has_no_rest.ensures ∙ c.if-has_no_rest.true) _ c.nothing_left.ensures

pub chars_before-chars-requires : goal.chars_before-chars-requires
chars_before-chars-requires c =
    (c.requires.0, ends_there _ _ c.requires.0 (sym c.has_no_rest.ensures ∙ c.if-has_no_rest.false) _ c.rest_end-end.ensures c.requires.1)

pub overflow_cast-result-2 : goal.overflow_cast-result-2
overflow_cast-result-2 c =
    omega (
      arith,
      c.requires.2,
      few-chars _ _ c.requires.0 (sym c.has_no_rest.ensures ∙ c.if-has_no_rest.false) _ c.rest_end-end.ensures _
          c.chars_before-chars.ensures,
    )

pub returns : goal.returns
returns c =
    resumed-some _ _ c.requires.0 (sym c.has_no_rest.ensures ∙ c.if-has_no_rest.false) _ c.rest_end-end.ensures _ c.chars_before-chars.ensures
