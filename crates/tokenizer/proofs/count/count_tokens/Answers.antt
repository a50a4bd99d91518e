-- `tokenizer::count::count_tokens` meets its contract (rule 3).
use Rattle.std.proofs.Common.{◌∙◌, refl, arith}
use mathlib.Core.Logic.{inl}
use Rattle.std.proofs.lemmas.Iterator.Consumers.{count_from_yields_List, YieldsList-from_first}
use Rattle.meaning.specs.Tokens.{tokens}
use Rattle.parser.specs.Lexing.{chars_from}
use Rattle.tokenizer.specs.Reading.{tokens_left}
use Rattle.tokenizer.proofs.ReadingLaws.{ranged-length}
use Rattle.tokenizer.proofs.TokenizeLaws.{tokens-few}
use Rattle.tokenizer.proofs.count.count_tokens.Goals as goal

pub count-requires-clause-fits : goal.count-requires-clause-fits
count-requires-clause-fits c =
    inl (omega (arith, ranged-length 0 (tokens (chars_from c.args.text.now 0)), tokens-few c.args.text.now, c.requires))

pub returns : goal.returns
returns c =
    count_from_yields_List _ _ c.count.ensures.ran (YieldsList-from_first (λ x. x) tokens_left _ refl) ∙ ranged-length 0 (tokens (chars_from c.args.text.now 0))
