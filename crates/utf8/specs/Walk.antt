-- Reading one character after the other: what is read of a text, and at its positions.
-- Assumes nothing.
use Rattle.std.specs.Prelude.{◌≡◌, Bool, true, false, length, drop}
use Rattle.std.proofs.Math.Path.{refl}
use Rattle.std.proofs.Common.{sym, ap, ◌∙◌, arith, length-append, drop_of_length-le}
use mathlib.Core.List.{List, [], ◌∷◌, ◌++◌, append_assoc, append-nil}
use Prim.Native.Nat.{ℕ, zero, suc, ◌+◌, ◌≤◌}
use Rattle.std.proofs.Math.ListN.{length-drop}
use Rattle.std.proofs.Math.Seq.{drop-drop, drop-append_seam}
use Rattle.utf8.specs.Scalar.{Scalar, Scalars}
use Rattle.utf8.specs.Encoding.{encode, bytes, size, encode_all}
use Rattle.utf8.specs.Decoding.{decode_head, decode_at, on_char, decode_after, decode_all}
use Rattle.utf8.specs.Sizes.{bytes-is, bytes_range, drop-encoded}
use Rattle.utf8.specs.RoundTrip.{decode_encode, encode_decode}
use Rattle.utf8.specs.declared.sequence.Decoded.{Decoded}
use Rattle.utf8.specs.declared.sequence.Decoded.TheVariants.{Char, Bad, End}

-- Is what was read a character.
abbrev pub is_char : Decoded → Bool
is_char (Char c n) = true
is_char Bad = false
is_char End = false

-- ---- one step

-- A character's bytes are as many as its range says.
pub head_bytes : (s : List ℕ) (c n : ℕ) → decode_head s ≡ Char c n → n ≡ bytes c
head_bytes s c n e = (encode_decode s c n e).1 ∙ sym (bytes-is c)

-- They lie within the list.
pub head_within : (s : List ℕ) (c n : ℕ) → decode_head s ≡ Char c n → (1 ≤ n) × (n ≤ length s)
head_within s c n e =
    let f = encode_decode s c n e in
    omega (arith, head_bytes s c n e, bytes_range c, f.1, simp length-append at (ap length f.2))

-- What is read after k bytes is what is read of the rest.
after : (k : ℕ) (s : List ℕ) → decode_after k s ≡ decode_all (drop k s)
unfolding decode_all decode_after
after zero s = refl
after (suc k) [] = refl
after (suc k) (a ∷ s) = after k s

-- A character at the front comes first, and then what the rest is read as.
pub all_more : (s : List ℕ) (c n : ℕ) → decode_head s ≡ Char c n → decode_all s ≡ c ∷ decode_all (drop n s)
unfolding decode_all decode_after
all_more [] c n e = absurd (omega (arith, head_within [] c n e))
all_more (a ∷ s) c zero e = absurd (omega (arith, head_within (a ∷ s) c zero e))
all_more (a ∷ s) c (suc n) e = rw e (ap (λ (l : List ℕ). c ∷ l) (after n s))

none : (d : Decoded) (f : ℕ → ℕ → List ℕ) → is_char d ≡ false → on_char d f ≡ []
none (Char c n) f e = cc
none Bad f e = refl
none End f e = refl

-- Where no character stands at the front, nothing is read.
pub all_none : (s : List ℕ) → is_char (decode_head s) ≡ false → decode_all s ≡ []
unfolding decode_all decode_after
all_none [] e = refl
all_none (a ∷ s) e = none (decode_head (a ∷ s)) _ e

-- ---- induction along the characters

by_head : (P : List ℕ → Type 0) (s : List ℕ) (d : Decoded) → decode_head s ≡ d
    → (is_char (decode_head s) ≡ false → P s)
    → ((c n : ℕ) → decode_head s ≡ Char c n → P s)
    → P s
by_head P s (Char c n) e stop step = step c n e
by_head P s Bad e stop step = stop (ap is_char e)
by_head P s End e stop step = stop (ap is_char e)

behind : (P : List ℕ → Type 0) (a : ℕ) (s : List ℕ) (n : ℕ) → 1 ≤ n → ((k : ℕ) → P (drop k s)) → P (drop n (a ∷ s))
behind P a s zero h f = absurd (omega arith)
behind P a s (suc n) h f = f n

module _ (P : List ℕ → Type 0) (stop : (s : List ℕ) → is_char (decode_head s) ≡ false → P s) (step : (s : List ℕ) (c n : ℕ) → decode_head s ≡ Char c n → P (drop n s) → P s) where
  from : (k : ℕ) (s : List ℕ) → P (drop k s)
  unfolding decode_head
  from zero [] = stop [] refl
  from (suc k) [] = stop [] refl
  from (suc k) (a ∷ s) = from k s
  from zero (a ∷ s) =
      by_head P (a ∷ s) (decode_head (a ∷ s)) refl (stop (a ∷ s))
      (λ c n e. step (a ∷ s) c n e (behind P a s n (head_within (a ∷ s) c n e).0 (λ k. from k s)))

  -- What holds where no character stands at the front, and before a character if it holds after it, holds of every list.
  pub along : (s : List ℕ) → P s
  along s = from 0 s

-- ---- a text that was written

pub all-encoded : (cs : List ℕ) → Scalars cs → (s : List ℕ) → decode_all (encode_all cs ++ s) ≡ cs ++ decode_all s
unfolding encode_all
all-encoded [] al s = refl
all-encoded (c ∷ cs) al s =
    rw append_assoc
    (all_more (encode c ++ (encode_all cs ++ s)) c (length (encode c)) (decode_encode c al.0 (encode_all cs ++ s))
    ∙ rw drop-append_seam (ap (λ (l : List ℕ). c ∷ l) (all-encoded cs al.1 s)))

pub decode_all-encode : (cs : List ℕ) → Scalars cs → decode_all (encode_all cs) ≡ cs
unfolding decode_all decode_after
decode_all-encode cs al = rw (append-nil (encode_all cs), append-nil cs) at (all-encoded cs al [])

-- What is read are scalar values.
pub decode_all-scalars : (s : List ℕ) → Scalars (decode_all s)
decode_all-scalars =
    along (λ s. Scalars (decode_all s)) (λ s e. rw (all_none s e) tt)
    (λ s c n e rest. rw (all_more s c n e) ((encode_decode s c n e).0, rest))

-- ---- at a position of a text

module _ (t : List ℕ) (i c n : ℕ) (e : decode_at t i ≡ Char c n) where
  pub decode_at-char : decode_all (drop i t) ≡ c ∷ decode_all (drop (i + n) t)
  unfolding decode_at
  decode_at-char = all_more (drop i t) c n e ∙ rw drop-drop

  pub decode_at-within : (1 ≤ n) × (i + n ≤ length t)
  unfolding decode_at
  decode_at-within = omega (arith, simp length-drop at (head_within (drop i t) c n e))

  pub decode_at-bytes : n ≡ bytes c
  unfolding decode_at
  decode_at-bytes = head_bytes (drop i t) c n e

pub decode_at-none : (t : List ℕ) (i : ℕ) → is_char (decode_at t i) ≡ false → decode_all (drop i t) ≡ []
unfolding decode_at
decode_at-none t i e = all_none (drop i t) e

pub decode_at-end : (t : List ℕ) (i : ℕ) → length t ≤ i → decode_all (drop i t) ≡ []
unfolding decode_all decode_after
decode_at-end t i h = rw (drop_of_length-le t h)

-- After some characters of a text stands the next.
pub decode_at-text : (xs : List ℕ) (c : ℕ) (ys : List ℕ) → Scalar c → decode_at (encode_all (xs ++ (c ∷ ys))) (size xs) ≡ Char c (bytes c)
unfolding decode_at encode_all
decode_at-text xs c ys sc = rw (drop-encoded xs (c ∷ ys), bytes-is c) (decode_encode c sc (encode_all ys))
