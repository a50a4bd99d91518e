-- From one token of a text to the next.
-- Assumes nothing.
use Rattle.std.proofs.Math.Path.{◌≡◌, refl, sym, ap}
use Rattle.std.proofs.Common.{◌∙◌, arith}
use mathlib.Core.List.{List, [], ◌∷◌, ◌++◌}
use Rattle.std.specs.Prelude.{ℕ, ◌+◌, ◌-◌, ◌≤◌, length, drop, None, Some}
use Rattle.std.proofs.Math.Nat.{add-zero}
use Rattle.std.proofs.Math.ListN.{length-drop}
use Rattle.utf8.specs.Encoding.{bytes, size}
use Rattle.utf8.specs.Decoding.{decode_at, valid_prefix}
use Rattle.utf8.specs.Prefix.{prefix-within}
use Rattle.utf8.specs.Walk.{is_char, decode_at-bytes}
use Rattle.utf8.specs.declared.sequence.Decoded.{Decoded}
use Rattle.utf8.specs.declared.sequence.Decoded.TheVariants.{Char, Bad, End}
use Rattle.meaning.specs.Characters.{class_of}
use Rattle.meaning.specs.Tokens.{Tok, tokens, first, others, size_of}
use Rattle.laws.specs.Spell.{text_of}
use Rattle.laws.specs.TokenLaws.{tokens-step, tokens_none, first-text, size-text, size-first, tokens-sound, sound-size}
use Rattle.parser.specs.Lexing.{chars_from, lexeme_at, lexed_at}
use Rattle.parser.specs.declared.lexeme.Lexeme.{Lexeme}
use Rattle.parser.specs.ScanLaws.{chars-more, chars-none}

module _ (t : List ℕ) where
  -- Behind some of the characters stand the others.
  pub chars_after : (xs ys : List ℕ) (at : ℕ) → chars_from t at ≡ xs ++ ys → chars_from t (at + size xs) ≡ ys
  unfolding size
  chars_after [] ys at e = rw add-zero e
  chars_after (x ∷ xs) ys at e = go (decode_at t at) refl (λ n. chars_after xs ys (at + n))
    where
      go : (d : Decoded) → decode_at t at ≡ d
          → ((n : ℕ) → chars_from t (at + n) ≡ xs ++ ys → chars_from t (at + n + size xs) ≡ ys)
          → chars_from t (at + (bytes x + size xs)) ≡ ys
      go (Char c n) d rest =
          let m = chars-more t at c n d in
          let b = decode_at-bytes t at c n d in
          let q : c ≡ x = cc in
          let p : at + (bytes x + size xs) ≡ at + n + size xs = omega (arith, ap bytes q) in
          rw p (rest n (cc))
      go Bad d rest = let z : ◌≡◌ {A = ℕ} 0 1 = cc (chars-none t at (ap is_char d)) in absurd (omega arith)
      go End d rest = let z : ◌≡◌ {A = ℕ} 0 1 = cc (chars-none t at (ap is_char d)) in absurd (omega arith)

  -- The characters from a position on lie in the text.
  chars-within : (at : ℕ) → size (chars_from t at) ≤ length t - at
  unfolding chars_from valid_prefix
  chars-within at = omega (arith, prefix-within (drop at t), length-drop at t)

  -- The token at a position, and the next position.
  pub record Next (at : ℕ) (l : Lexeme) : Type 0 where
    pub tok : Tok
    pub is : l ≡ lexeme_at at tok
    pub more : tokens (chars_from t at) ≡ tok ∷ tokens (chars_from t l.end.0)
    pub passes : at + 1 ≤ l.end.0
    pub within : l.end.0 ≤ length t

  pub next-none : (at : ℕ) → lexed_at at (tokens (chars_from t at)) ≡ None → tokens (chars_from t at) ≡ []
  unfolding lexed_at
  next-none at e = go (tokens (chars_from t at)) refl
    where
      go : (ts : List Tok) → tokens (chars_from t at) ≡ ts → tokens (chars_from t at) ≡ []
      go [] p = p
      go (x ∷ ts) p =
          let q : Some (lexeme_at at x) ≡ None = rw p at e in
          let z : ◌≡◌ {A = ℕ} 0 1 = cc in
          absurd (omega arith)

  pub next : (at : ℕ) (l : Lexeme) → lexed_at at (tokens (chars_from t at)) ≡ Some l → Next at l
  unfolding lexed_at lexeme_at
  next at l e = go (chars_from t at) refl
    where
      go : (cs : List ℕ) → chars_from t at ≡ cs → Next at l
      go [] p =
          let q : None ≡ Some l = rw (p, tokens_none) at e in
          let z : ◌≡◌ {A = ℕ} 0 1 = cc in
          absurd (omega arith)
      go (c ∷ cs) p =
          let k = first (class_of c) c cs in
          let q : Some (lexeme_at at k) ≡ Some l = rw (p, tokens-step c cs) at e in
          let i : l ≡ lexeme_at at k = cc in
          let end : l.end.0 ≡ at + size_of k = ap (λ (x : Lexeme). x.end.0) i in
          let o = others (class_of c) cs in
          let rest : chars_from t (at + size_of k) ≡ o = rw (size-text k) (chars_after (text_of k) o at (p ∙ sym (first-text c cs))) in
          let sound = sound-size k _ (rw (tokens-step c cs) at (tokens-sound (c ∷ cs))).0 in
          record {
            tok = k;
            is = i;
            more = rw (p, tokens-step c cs, end, rest);
            passes = omega arith;
            within = omega (arith, chars-within at, ap size p, size-first c cs);
          }
