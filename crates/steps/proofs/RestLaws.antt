-- What a line resumes, and the character that ends it.
-- Assumes nothing.
use Prim.Native.Nat.{ℕ, zero, suc, ◌+◌, ◌≤◌}
use Rattle.std.specs.Prelude.{Some}
use native.Mathlib.Nat.{add_assoc}
use native.Mathlib.Omega.{arith}
use mathlib.Core.Path.{◌≡◌, refl, sym}
use mathlib.Core.List.{List, [], ◌∷◌}
use lib.ListN.{length, take, drop, take-append-drop}
use lib.Seq.{length-take-le}
use Rattle.utf8.specs.Encoding.{size}
use Rattle.utf8.specs.Sizes.{bytes_range}
use Rattle.meaning.specs.Tokens.{ender, tokens, chars_of, size_of, ender_of, need_of}
use Rattle.meaning.specs.Line.{held_tokens}
use Rattle.laws.specs.TokenLaws.{length-size}
use Rattle.laws.specs.PassBounds.{size-take}
use Rattle.parser.specs.NextLaws.{chars_after}
use Rattle.parser.specs.Lexing.{chars_from, lexeme_at, lexed_at}
use Rattle.steps.specs.Lexed.{chars-within}
use Rattle.steps.specs.declared.step.Resumed.{Resumed}
use Rattle.steps.specs.Pending.{RestFits, rest_lexeme}

ender-small : (cs : List ℕ) → ender cs ≤ 4
unfolding ender
ender-small [] = omega arith
ender-small (c ∷ cs) = (bytes_range c).1

part-inside : (t : List ℕ) (at k : ℕ) → (k ≡ 0 → ⊥) → k ≤ length (chars_from t at) → at + size (take k (chars_from t at)) ≤ length t
part-inside t at k d h =
    let cs = chars_from t at in
    omega (arith, chars-within t at, size-take k cs, length-size cs)

read-rest : (t : List ℕ) (at chars count end : ℕ) → chars ≤ length (chars_from t at) → (chars ≡ 0 → ⊥)
    → end ≡ at + size (take chars (chars_from t at))
    → Some
    (rest_lexeme (record { end = record { 0 = end }; chars = record { 0 = chars }; count = record { 0 = count } }) (ender (chars_from t end)))
    ≡ lexed_at at (held_tokens chars count (chars_from t at))
unfolding rest_lexeme held_tokens lexed_at lexeme_at chars_of size_of need_of ender_of
read-rest t at zero count end h d e = absurd (d refl)
read-rest t at (suc k) count end h d e =
    let cs = chars_from t at in
    let ws = take (suc k) cs in
    rw (e, chars_after t ws (drop (suc k) cs) at (sym (take-append-drop (suc k) cs)), length-take-le (suc k) cs h, add_assoc at (size ws) (ender (drop (suc k) cs)))

module _ (t : List ℕ) (at : ℕ) (r : Resumed) (f : RestFits t at r) (d : r.chars.0 ≡ 0 → ⊥) where
  pub rest-inside : r.end.0 ≤ length t
  rest-inside = rw (f.ends d) (part-inside t at r.chars.0 d f.within)

  pub rest_read : (n : ℕ) → n ≡ ender (chars_from t r.end.0) → Some (rest_lexeme r n) ≡ lexed_at at (held_tokens r.chars.0 r.count.0 (chars_from t at))
  rest_read n e = rw e (read-rest t at r.chars.0 r.count.0 r.end.0 f.within d (f.ends d))

pub ender-at-most : (t : List ℕ) (at n : ℕ) → n ≡ ender (chars_from t at) → n ≤ 4
ender-at-most t at n e = rw e (ender-small (chars_from t at))

-- No rest: the token that stands there.
pub none_read : (t : List ℕ) (at : ℕ) (r : Resumed) → r.chars.0 ≡ 0
    → lexed_at at (tokens (chars_from t at)) ≡ lexed_at at (held_tokens r.chars.0 r.count.0 (chars_from t at))
unfolding held_tokens
none_read t at r e = rw e
