-- How many characters of a text stand from one offset up to another (rule 12).
-- Assumes nothing.
use Rattle.std.specs.Prelude.{ℕ, ◌+◌, ◌≤◌, ◌≡◌, refl, List, ◌++◌, length, take, drop, Some}
use Rattle.std.proofs.Common.{arith, ◌∙◌, append_assoc, length-append, take-append-drop, length-take-le}
use Rattle.std.proofs.Math.Path.{sym, ap}
use Rattle.std.proofs.Math.Seq.{take-append_seam}
use Rattle.utf8.specs.Encoding.{size}
use Rattle.utf8.specs.Sizes.{size_append}
use Rattle.meaning.specs.Tokens.{tokens}
use Rattle.laws.specs.Spell.{text_of}
use Rattle.laws.specs.TokenLaws.{chars-text, size-text, length-size}
use Rattle.laws.specs.Suffixes.{same_count}
use Rattle.parser.specs.Lexing.{chars_from, lexeme_at, lexed_at}
use Rattle.parser.specs.NextLaws.{chars_after}
use Rattle.parser.specs.declared.lexeme.Lexeme.{Lexeme}
use Rattle.steps.specs.Lexed.{chars-within}
use Rattle.steps.specs.Stepping.{tok_of}
use Rattle.strides.specs.OnwardLaws.{read-pending}

-- The characters that stand from one offset up to another.
pub record Stretch (t : List ℕ) (at next : ℕ) : Type 0 where
  pub chars : List ℕ
  pub are : chars_from t at ≡ chars ++ chars_from t next
  pub ends : next ≡ at + size chars

-- There are so many of them.
pub record Taken (t : List ℕ) (at next n : ℕ) : Type 0 where
  pub stretch : Stretch t at next
  pub count : n ≡ length stretch.chars

module _ (t : List ℕ) (at : ℕ) where
  -- Up to where so many characters end.
  pub front-stretch : (k : ℕ) → Stretch t at (at + size (take k (chars_from t at)))
  front-stretch k =
      let cs = chars_from t at in
      record {
        chars = take k cs;
        are = sym (take-append-drop k cs) ∙ ap (λ (l : List ℕ). take k cs ++ l) (sym (chars_after t (take k cs) (drop k cs) at (sym (take-append-drop k cs))));
        ends = refl;
      }

  pub front-taken : (k : ℕ) → k ≤ length (chars_from t at) → (next : ℕ) → next ≡ at + size (take k (chars_from t at)) → Taken t at next k
  unfolding front-stretch
  front-taken k h next e =
      rw e (record { stretch = front-stretch k; count = sym (length-take-le k (chars_from t at) h) })

  -- No other number of characters ends there.
  pub taken_is : (k next n : ℕ) → k ≤ length (chars_from t at) → next ≡ at + size (take k (chars_from t at)) → Taken t at next n → n ≡ k
  taken_is k next n h e a =
      let cs = chars_from t at in
      let xs = a.stretch.chars in
      let front : take n cs ≡ xs = rw (a.stretch.are, a.count) (take-append_seam xs (chars_from t next)) in
      let few : n ≤ length cs = rw (a.stretch.are, length-append) (omega (arith, a.count)) in
      same_count n k cs few h (rw front (omega (arith, a.stretch.ends)))

  -- A token.
  pub token_taken : (x : Lexeme) → lexed_at at (tokens (chars_from t at)) ≡ Some x → Taken t at x.end.0 x.chars.0
  unfolding lexeme_at
  token_taken x e =
      let h = (read-pending t at x e).stands in
      let k = tok_of t at x in
      record {
        stretch = record {
          chars = text_of k;
          are = sym h.text;
          ends = ap (λ (y : Lexeme). y.end.0) h.is ∙ ap (λ (n : ℕ). at + n) (size-text k);
        };
        count = ap (λ (y : Lexeme). y.chars.0) h.is ∙ chars-text k;
      }

-- One stretch after another.
pub taken-on : (t : List ℕ) (at to next n m : ℕ) → Taken t at to n → Taken t to next m → Taken t at next (n + m)
taken-on t at to next n m a b =
    let xs = a.stretch.chars in
    let ys = b.stretch.chars in
    record {
      stretch = record {
        chars = xs ++ ys;
        are = a.stretch.are ∙ ap (λ (l : List ℕ). xs ++ l) b.stretch.are ∙ sym (append_assoc xs ys (chars_from t next));
        ends = omega (arith, a.stretch.ends, b.stretch.ends, size_append xs ys);
      };
      count = omega (arith, a.count, b.count, length-append xs ys);
    }

-- There are no more of them than bytes in the text.
pub taken-short : (t : List ℕ) (at next n : ℕ) → Taken t at next n → n ≤ length t
taken-short t at next n a =
    let cs = chars_from t at in
    let few : n ≤ length cs = rw (a.stretch.are, length-append) (omega (arith, a.count)) in
    omega (arith, length-size cs, chars-within t at)
