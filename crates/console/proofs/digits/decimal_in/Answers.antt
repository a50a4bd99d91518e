-- `console::digits::decimal_in` meets its contract.
use Rattle.std.proofs.Common.{sym, ◌∙◌, arith}
use Rattle.std.proofs.lemmas.Bool.Decides.{nat_tests}
use Rattle.console.proofs.DigitSteps.{none_left_lem, no_digit, too_high, one_more_lem, is_one, is_none, some-digits, no_digits}
use Rattle.console.proofs.digits.decimal_in.Goals as goal

pub returns-then-is_empty : goal.returns-then-is_empty
returns-then-is_empty c =
    sym (no_digits c.args.most c.args.word.now (grind (arith, nat_tests)))

pub loop-byte-init : goal.loop-byte-init
loop-byte-init c =
    (some-digits c.args.most c.args.word.now (grind (arith, nat_tests)), omega arith)

pub returns-then-not-is_ascii_digit : goal.returns-then-not-is_ascii_digit
returns-then-not-is_ascii_digit c =
    sym (c.loop-byte.invariant.0 ∙ no_digit _ _ _ _ c.loop-byte-test.true (is_none _ c.if-not-is_ascii_digit.ensures.cases))

pub returns-then-from-n : goal.returns-then-from-n
returns-then-from-n c =
    sym (c.loop-byte.invariant.0 ∙ too_high _ _ _ _ c.loop-byte-test.true (is_one _ c.if-not-is_ascii_digit.ensures.cases) _ c.from.ensures (omega (arith, c.if-from-n.true, c.from-in-loop-byte.ensures)))

pub loop-byte-preserved : goal.loop-byte-preserved
loop-byte-preserved c = (
  c.loop-byte.invariant.0 ∙ one_more_lem _ _ _ _ c.loop-byte-test.true (is_one _ c.if-not-is_ascii_digit.ensures.cases) _ c.from.ensures (omega (arith, c.if-from-n.false)),
  omega (arith, c.if-from-n.false),
)

pub returns : goal.returns
returns c =
    sym (c.loop-byte.invariant.0 ∙ none_left_lem _ _ _ _ c.loop-byte-test.false)
