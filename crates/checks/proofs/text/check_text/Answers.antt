-- `checks::text::check_text` meets its contract (refusal 3, refusal 4).
use Rattle.std.proofs.Common.{◌≡◌, sym, ◌∙◌, arith, length}
use Rattle.std.specs.Prelude.{Ok}
use Rattle.utf8.specs.Prefix.{prefix-within}
use Rattle.meaning.specs.Checks.{check_length}
use Rattle.laws.specs.Asked.{asked}
use Rattle.checks.specs.TextLaws.{length-within, refused-long, text-good, not-utf8}
use Rattle.checks.proofs.text.check_text.Goals as goal

pub returns-in_err-check_length : goal.returns-in_err-check_length
returns-in_err-check_length c =
    asked _ c.from_residual.ensures.1 ∙ refused-long _ _ (sym c.check_length.ensures ∙ c.in_err-check_length.was)

pub returns-then-prefix-text : goal.returns-then-prefix-text
returns-then-prefix-text c =
    text-good _ ((let short_here : check_length (length c.args.text.now) ≡ Ok tt = sym c.check_length.ensures ∙ c.in_ok-check_length.was in short_here)) _ c.valid_prefix-prefix.ensures c.if-prefix-text.true

pub overflow_cast-result : goal.overflow_cast-result
overflow_cast-result c =
    record { fits = omega (arith, c.valid_prefix-prefix.ensures, prefix-within c.args.text.now, length-within (length c.args.text.now) ((let short_here : check_length (length c.args.text.now) ≡ Ok tt = sym c.check_length.ensures ∙ c.in_ok-check_length.was in short_here))) }

pub returns : goal.returns
returns c =
    not-utf8 _ ((let short_here : check_length (length c.args.text.now) ≡ Ok tt = sym c.check_length.ensures ∙ c.in_ok-check_length.was in short_here)) _ c.valid_prefix-prefix.ensures c.if-prefix-text.false
