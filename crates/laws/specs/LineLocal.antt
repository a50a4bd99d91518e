-- Locality: a line depends only on the bytes up to its reach (rule 12).
-- Assumes nothing.
use Rattle.std.specs.Prelude.{ℕ, zero, suc, ◌≤◌, ◌≡◌, List, [], ◌∷◌, ◌++◌, length, take}
use Rattle.std.proofs.Common.{arith, sym, ◌∙◌}
use Rattle.std.proofs.lemmas.List.{take-append-le}
use Rattle.utf8.specs.Encoding.{size}
use Rattle.utf8.specs.Sizes.{bytes_range}
use Rattle.meaning.specs.LineIter.{Held}
use Rattle.meaning.specs.Line.{line_tokens, lay_line, rest_of, entry_at}
use Rattle.meaning.specs.Layout.{row_at}
use Rattle.meaning.specs.declared.settings.Settings.{Settings}
use Rattle.laws.specs.TokensAgree.{line-tokens-agree}
use Rattle.laws.specs.Local.{line_local}

-- What a text's front holds does not depend on what follows it.
pub take_local : (k : ℕ) (p x y : List ℕ) → k ≤ length p → take k (p ++ y) ≡ take k (p ++ x)
take_local k p x y h = take-append-le k p y h ∙ sym (take-append-le k p x h)

-- A part of a text that takes no more bytes than its front lies within it.
pub size-within : (k : ℕ) (p x : List ℕ) → k ≤ length (p ++ x) → size (take k (p ++ x)) ≤ size p → k ≤ length p
unfolding size
size-within zero p x h l = omega arith
size-within (suc k) [] [] h l = h
size-within (suc k) [] (c ∷ x) h l = absurd (omega (arith, bytes_range c))
size-within (suc k) (c ∷ p) x h l = let r = size-within k p x (omega arith) (omega arith) in omega arith

module _ (s : Settings) (h : Held) (p x y : List ℕ) (far : (lay_line s h (p ++ x)).reach ≤ size p) where
  pub lay_local : lay_line s h (p ++ y) ≡ lay_line s h (p ++ x)
  unfolding lay_line
  lay_local = line_local s (line_tokens h (p ++ x)) (line_tokens h (p ++ y)) (size p) (line-tokens-agree h p x y) far

  -- The line with its entry and events, if what is held lies within these bytes.
  pub row_local : (start before : ℕ) → h.chars ≤ length p
      → row_at start before h (p ++ y) (lay_line s h (p ++ y)) ≡ row_at start before h (p ++ x) (lay_line s h (p ++ x))
  unfolding row_at entry_at rest_of
  row_local start before k = rw (lay_local, take_local h.chars p x y k)
