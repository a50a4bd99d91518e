use Rattle.std.proofs.Common.{refl, sym, ap, ◌∙◌, List, ℕ, ◌+◌, ◌*◌, arith, length}
use lib.Seq.{sets}
use Rattle.meaning.specs.Table.{token_numbers}
use Rattle.tokenizer.specs.Writing.{numbers_from}
use Rattle.parser.specs.NextLaws.{next, next-none}
use Rattle.tokenizer.proofs.WriteLaws.{sets_more, sets-none}
use Rattle.tokenizer.proofs.write.write_tokens.Goals as goal

pub loop-lexeme-init : goal.loop-lexeme-init
loop-lexeme-init c =
    (refl, omega arith, refl, omega arith, omega arith)

pub put_token-requires : goal.put_token-requires
put_token-requires c =
    let s = next c.args.text.now c.loop-lexeme.at c.in-Some.lexeme (sym c.token_at.ensures ∙ c.in-Some.is) in omega (arith, ap length s.more)

pub loop-lexeme-smaller : goal.loop-lexeme-smaller
loop-lexeme-smaller c =
    let s = next c.args.text.now c.loop-lexeme.at c.in-Some.lexeme (sym c.token_at.ensures ∙ c.in-Some.is) in
    omega arith

pub loop-lexeme-preserved : goal.loop-lexeme-preserved
loop-lexeme-preserved c =
    let s = next c.args.text.now c.loop-lexeme.at c.in-Some.lexeme (sym c.token_at.ensures ∙ c.in-Some.is) in (
      ap (λ (b : List ℕ). sets b (token_numbers * (c.loop-lexeme.n + 1)) (numbers_from c.args.text.now c.in-Some.lexeme.end.0)) c.put_token.ensures
          ∙ sets_more c.args.text.now c.loop-lexeme.buffer c.loop-lexeme.n c.loop-lexeme.at _ s ∙ c.loop-lexeme.invariant.0,
      omega (arith, ap length s.more),
      omega (arith, c.put_token.auto.buffer),
      omega arith,
      omega arith,
    )

pub returns : goal.returns
returns c =
    let z = next-none c.args.text.now c.loop-lexeme.at (sym c.token_at.ensures ∙ c.in_default.is) in record { value = omega (arith, ap length z); buffer_after = sym (sets-none c.args.text.now c.loop-lexeme.buffer (token_numbers * c.loop-lexeme.n) c.loop-lexeme.at z) ∙ c.loop-lexeme.invariant.0 }
