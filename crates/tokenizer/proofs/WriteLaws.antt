-- The numbers of one token after the other.
-- Assumes nothing.
use mathlib.Core.Path.{◌≡◌, sym, ap}
use mathlib.Core.List.{List, [], ◌∷◌, ◌++◌}
use Prim.Native.Nat.{ℕ, suc, ◌+◌, ◌*◌}
use native.Mathlib.Omega.{arith}
use lib.ListN.{set}
use lib.Seq.{sets}
use Rattle.meaning.specs.Tokens.{tokens, ranged}
use Rattle.meaning.specs.Table.{token_numbers, token_number, of_token, of_all}
use Rattle.parser.specs.Lexing.{chars_from, lexeme_at}
use Rattle.tokenizer.specs.Writing.{numbers_of, numbers_from}
use Rattle.parser.specs.declared.lexeme.Lexeme.{Lexeme}
use Rattle.parser.specs.NextLaws.{Next}

-- Four stores, one place after the other.
pub four-sets : (b : List ℕ) (p k s : ℕ) (l : Lexeme) → k ≡ token_number l.kind
    → set (set (set (set b p k) (p + 1) s) (p + 2) l.end.0) (p + 3) l.count.0 ≡ sets b p (numbers_of s l)
unfolding numbers_of
four-sets b p k s l e =
    let one : p + 1 ≡ suc p = omega arith in
    let two : p + 2 ≡ suc (suc p) = omega arith in
    let three : p + 3 ≡ suc (suc (suc p)) = omega arith in
    rw (e, one, two, three)

module _ (t : List ℕ) where
  pub numbers_more : (at : ℕ) (l : Lexeme) → Next t at l → numbers_from t at ≡ numbers_of at l ++ numbers_from t l.end.0
  unfolding numbers_from numbers_of lexeme_at ranged of_all of_token
  numbers_more at l s =
      let ts = tokens (chars_from t l.end.0) in
      rw s.more
      (ap (λ (x : Lexeme). token_number x.kind ∷ at ∷ x.end.0 ∷ x.count.0 ∷ of_all of_token (ranged x.end.0 ts)) (sym s.is))

  -- A token written, and then the rest.
  pub sets_more : (b : List ℕ) (n at : ℕ) (l : Lexeme) → Next t at l
      → sets (sets b (token_numbers * n) (numbers_of at l)) (token_numbers * (n + 1)) (numbers_from t l.end.0) ≡ sets b (token_numbers * n) (numbers_from t at)
  unfolding numbers_of
  sets_more b n at l s =
      let e : token_numbers * (n + 1) ≡ suc (suc (suc (suc (token_numbers * n)))) = omega arith in
      rw (numbers_more at l s, e)

  -- No token left to write.
  pub sets-none : (b : List ℕ) (k at : ℕ) → tokens (chars_from t at) ≡ [] → sets b k (numbers_from t at) ≡ b
  unfolding numbers_from ranged of_all
  sets-none b k at e = rw e
