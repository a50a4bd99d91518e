-- One step of a scan, at a position of a text.
-- Assumes nothing.
use Rattle.std.specs.Prelude.{◌≡◌, Bool, true, false, List, [], ◌∷◌, ℕ, ◌+◌, ◌≤◌, length}
use Rattle.std.proofs.Common.{ap, sym, ◌∙◌, ◌⊎◌, inl, inr, arith}
use Rattle.basis.specs.Choice.{pick, pick_cases}
use Rattle.utf8.specs.Decoding.{decode_at}
use Rattle.utf8.specs.Sizes.{bytes_range}
use Rattle.utf8.specs.Walk.{is_char, decode_at-char, decode_at-bytes, decode_at-within, decode_at-none, decode_at-end}
use Rattle.utf8.specs.declared.sequence.Decoded.{Decoded}
use Rattle.utf8.specs.declared.sequence.Decoded.TheVariants.{Char, Bad, End}
use Rattle.meaning.specs.Tokens.{ender}
use Rattle.parser.specs.Lexing.{chars_from}
use Rattle.parser.specs.Scanning.{space_of, scanned_at, scan_from}

-- The characters from a position on.
pub chars-more : (t : List ℕ) (i c n : ℕ) → decode_at t i ≡ Char c n → chars_from t i ≡ c ∷ chars_from t (i + n)
unfolding chars_from
chars-more t i c n e = decode_at-char t i c n e

pub chars-none : (t : List ℕ) (i : ℕ) → is_char (decode_at t i) ≡ false → chars_from t i ≡ []
unfolding chars_from
chars-none t i e = decode_at-none t i e

pub chars-past : (t : List ℕ) (i : ℕ) → length t ≤ i → chars_from t i ≡ []
unfolding chars_from
chars-past t i h = decode_at-end t i h

-- What is read at a position is no character where it is one of the two others.
pub no_char : (t : List ℕ) (i : ℕ) (d : Decoded) → d ≡ decode_at t i → (d ≡ Bad) ⊎ (d ≡ End) → is_char (decode_at t i) ≡ false
no_char t i d e (inl b) = ap is_char (sym e ∙ b)
no_char t i d e (inr b) = ap is_char (sym e ∙ b)

-- The bytes of the one that stands there, which ends what stands before it.
pub ender-char : (t : List ℕ) (i c n : ℕ) → decode_at t i ≡ Char c n → n ≡ ender (chars_from t i)
unfolding ender
ender-char t i c n e = rw (chars-more t i c n e) (decode_at-bytes t i c n e)

pub ender-none : (t : List ℕ) (i : ℕ) → is_char (decode_at t i) ≡ false → 1 ≡ ender (chars_from t i)
unfolding ender
ender-none t i e = rw (chars-none t i e)

module _ (goes : ℕ → Bool) (weigh : ℕ → ℕ) (t : List ℕ) (at n w : ℕ) where
  module _ (c k : ℕ) (e : decode_at t at ≡ Char c k) where
    pub scan_more : goes c ≡ true
        → scan_from goes weigh at n w (chars_from t at) ≡ scan_from goes weigh (at + k) (n + 1) (w + weigh c) (chars_from t (at + k))
    unfolding scan_from pick
    scan_more g = rw (chars-more t at c k e, decode_at-bytes t at c k e, g)

    pub scan_stop : goes c ≡ false → scan_from goes weigh at n w (chars_from t at) ≡ scanned_at at n w k
    unfolding scan_from pick
    scan_stop g = rw (chars-more t at c k e, decode_at-bytes t at c k e, g)

  pub scan_end : is_char (decode_at t at) ≡ false → scan_from goes weigh at n w (chars_from t at) ≡ scanned_at at n w 1
  unfolding scan_from
  scan_end e = rw (chars-none t at e)

  pub scan_past : length t ≤ at → scan_from goes weigh at n w (chars_from t at) ≡ scanned_at at n w 1
  unfolding scan_from
  scan_past h = rw (chars-past t at h)

-- One character counts one space at most.
pub space-one : (c : ℕ) → space_of c ≤ 1
unfolding space_of
space-one c = pick_cases (λ n. n ≤ 1) _ (λ _. omega arith) (λ _. omega arith)

-- A character takes one to four bytes, which lie in the text.
pub char-room : (t : List ℕ) (i c n : ℕ) → decode_at t i ≡ Char c n → (1 ≤ n) × (n ≤ 4) × (i + n ≤ length t)
char-room t i c n e = omega (arith, decode_at-within t i c n e, decode_at-bytes t i c n e, bytes_range c)
