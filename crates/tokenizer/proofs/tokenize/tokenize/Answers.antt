-- `tokenizer::tokenize::tokenize` meets its contract (rule 3, refusal 3, refusal 4, refusal 8).
use Rattle.std.proofs.Common.{sym, ◌∙◌}
use Rattle.laws.specs.Asked.{asked}
use Rattle.parser.specs.GoodText.{good_length}
use Rattle.tokenizer.proofs.TokenizeLaws.{text-good, text-refused}
use Rattle.tokenizer.proofs.tokenize.tokenize.Goals as goal

pub fill-requires : goal.fill-requires
fill-requires c =
    good_length _ (sym c.check_text.ensures ∙ c.in_ok-check_text.was)

pub returns : goal.returns
returns c =
    let r = text-good _ _ (sym c.check_text.ensures ∙ c.in_ok-check_text.was) in record { value = c.fill.ensures.value ∙ r.0; buffer_after = c.fill.ensures.buffer_after ∙ r.1 }

pub returns-in_err-check_text : goal.returns-in_err-check_text
returns-in_err-check_text c =
    let r = text-refused _ _ _ (sym c.check_text.ensures ∙ c.in_err-check_text.was) in record { value = asked _ c.from_residual.ensures.1 ∙ r.0; buffer_after = r.1 }
