-- From one token of a reader's text to the next.
-- Assumes nothing.
use Rattle.std.specs.Prelude.{◌≡◌, ℕ, ◌+◌, List, [], ◌∷◌, length, None, Option, Some}
use Rattle.std.proofs.Common.{refl, sym, ap, ◌∙◌, arith}
use Rattle.meaning.specs.Tokens.{Tok, size_of, tokens, ranged}
use Rattle.meaning.specs.declared.tokens.Token.{Token}
use Rattle.parser.specs.Lexing.{chars_from, lexeme_at}
use Rattle.parser.specs.NextLaws.{Next, next, next-none}
use Rattle.parser.specs.declared.lexeme.Lexeme.{Lexeme}
use Rattle.tokenizer.specs.Reading.{end_of, next_of, read_on, tokens_left}
use Rattle.tokenizer.specs.declared.reader.Reader.{Reader}

-- A token that starts at an offset.
abbrev pub token_of : ℕ → Lexeme → Token
token_of at l = record { kind = l.kind; start = record { 0 = at }; end = l.end; count = l.count }

pub ranged-length : (at : ℕ) (ts : List Tok) → length (ranged at ts) ≡ length ts
unfolding ranged
ranged-length at [] = refl
ranged-length at (t ∷ ts) = omega (arith, ranged-length (at + size_of t) ts)

ranged-more : (t : List ℕ) (at : ℕ) (l : Lexeme) → Next t at l → ranged at (tokens (chars_from t at)) ≡ token_of at l ∷ ranged l.end.0 (tokens (chars_from t l.end.0))
unfolding ranged lexeme_at
ranged-more t at l s =
    let ts = tokens (chars_from t l.end.0) in
    rw s.more (ap (λ (x : Lexeme). token_of at x ∷ ranged x.end.0 ts) (sym s.is))

ranged_none : (at : ℕ) (ts : List Tok) → ts ≡ [] → ranged at ts ≡ []
unfolding ranged
ranged_none at ts e = rw e refl

module _ (r q : Reader) (moved : q ≡ read_on r) where
  pub left-more : (l : Lexeme) → next_of r ≡ Some l → tokens_left r ≡ token_of r.at l ∷ tokens_left q
  left-more l e =
      let on : q ≡ record { text = r.text; at = l.end.0 } = moved ∙ ap (λ (o : Option Lexeme). record { text = r.text; at = end_of r.at o }) e in
      ranged-more r.text.now r.at l (next r.text.now r.at l e) ∙ sym (ap (λ (x : Reader). token_of r.at l ∷ tokens_left x) on)

  pub left_none : next_of r ≡ None → (tokens_left r ≡ []) × (tokens_left q ≡ [])
  left_none e =
      let on : q ≡ r = moved ∙ ap (λ (o : Option Lexeme). record { text = r.text; at = end_of r.at o }) e in
      let here = ranged_none r.at (tokens (chars_from r.text.now r.at)) (next-none r.text.now r.at e) in
      (here, ap tokens_left on ∙ here)
