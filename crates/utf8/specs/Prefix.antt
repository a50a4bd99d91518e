-- The longest prefix of a list of bytes that is UTF-8: `valid_prefix` is its length, and `decode_all` its characters (refusal 4).
-- Assumes nothing.
use Rattle.std.specs.Prelude.{◌≡◌, ◌↔◌, false, List, ◌++◌, ℕ, ◌+◌, ◌≤◌, length, take, drop}
use Rattle.std.proofs.Common.{sym, ap, ◌∙◌, subst, arith, length-drop, take-append-drop, take_at, take-add, length-take-le}
use Rattle.std.proofs.Math.Seq.{take-length}
use Rattle.utf8.specs.Encoding.{encode, size, encode_all, Text}
use Rattle.utf8.specs.Decoding.{decode_head, decode_at, decode_all, valid_prefix}
use Rattle.utf8.specs.Sizes.{size_is, size_append}
use Rattle.utf8.specs.RoundTrip.{encode_decode}
use Rattle.utf8.specs.Walk.{is_char, head_bytes, head_within, all_more, all_none, along, all-encoded, decode_all-encode, decode_all-scalars, decode_at-char, decode_at-none, decode_at-bytes}
use Rattle.utf8.specs.declared.sequence.Decoded.TheVariants.{Char}

-- ---- one step

pub prefix-none : (s : List ℕ) → is_char (decode_head s) ≡ false → valid_prefix s ≡ 0
unfolding valid_prefix size
prefix-none s e = rw (all_none s e)

pub prefix-more : (s : List ℕ) (c n : ℕ) → decode_head s ≡ Char c n → valid_prefix s ≡ n + valid_prefix (drop n s)
unfolding valid_prefix size
prefix-more s c n e = rw (all_more s c n e) (omega (arith, head_bytes s c n e))

-- The same at a position of a text.
pub prefix-at-more : (t : List ℕ) (i c n : ℕ) → decode_at t i ≡ Char c n → valid_prefix (drop i t) ≡ n + valid_prefix (drop (i + n) t)
unfolding valid_prefix size
prefix-at-more t i c n e = rw (decode_at-char t i c n e) (omega (arith, decode_at-bytes t i c n e))

pub prefix-at-none : (t : List ℕ) (i : ℕ) → is_char (decode_at t i) ≡ false → valid_prefix (drop i t) ≡ 0
unfolding valid_prefix size
prefix-at-none t i e = rw (decode_at-none t i e)

-- ---- the prefix is UTF-8

pub prefix-within : (s : List ℕ) → valid_prefix s ≤ length s
prefix-within =
    along (λ s. valid_prefix s ≤ length s) (λ s e. omega (arith, prefix-none s e))
    (λ s c n e rest. omega (arith, prefix-more s c n e, head_within s c n e, simp length-drop at rest))

-- The bytes of what is read are the prefix.
pub encode-all_decode : (s : List ℕ) → encode_all (decode_all s) ≡ take (valid_prefix s) s
unfolding encode_all
encode-all_decode =
    along (λ s. encode_all (decode_all s) ≡ take (valid_prefix s) s) (λ s e. rw (all_none s e, prefix-none s e))
    (λ s c n e rest.
    let f = encode_decode s c n e in
    let t : encode c ≡ take n s = sym (ap (take n) f.2 ∙ take_at (encode c) (drop n s) n (sym f.1)) in
    rw (all_more s c n e, prefix-more s c n e, take-add) (λ i. t i ++ rest i))

pub prefix-is-text : (s : List ℕ) → Text (take (valid_prefix s) s)
prefix-is-text s = record { scalars = decode_all s; all = decode_all-scalars s; is = sym (encode-all_decode s) }

-- ---- no longer prefix is

pub prefix-longest : (s : List ℕ) (n : ℕ) → n ≤ length s → Text (take n s) → n ≤ valid_prefix s
unfolding valid_prefix
prefix-longest s n h t =
    let e : encode_all t.scalars ++ drop n s ≡ s = ap (λ (l : List ℕ). l ++ drop n s) (sym t.is) ∙ take-append-drop n s in
    let r = rw e at (all-encoded t.scalars t.all (drop n s)) in
    let l : size t.scalars ≡ n = size_is t.scalars ∙ sym (ap length t.is) ∙ length-take-le n s h in
    rw (r, size_append) (omega arith)

pub prefix-whole : (s : List ℕ) → (valid_prefix s ≡ length s) ↔ Text s
prefix-whole s = (
  (λ e. subst Text (ap (λ (n : ℕ). take n s) e ∙ take-length s) (prefix-is-text s)),
  (λ t. omega (arith, prefix-within s, prefix-longest s (length s) (omega arith) (rw take-length t))),
)

-- UTF-8 is the encoding of what is read of it.
pub text_decode : (s : List ℕ) → Text s → encode_all (decode_all s) ≡ s
text_decode s t = ap (λ (l : List ℕ). encode_all (decode_all l)) t.is ∙ ap encode_all (decode_all-encode t.scalars t.all) ∙ sym t.is
