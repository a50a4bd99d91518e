-- How many bytes a character has, by the first of them, and where so many characters end.
-- Assumes nothing.
use Prim.Native.Nat.{ℕ, zero, suc, ◌+◌, ◌-◌, ◌/◌, ◌≤◌, ◌<◌}
use Rattle.std.specs.Prelude.{◌≡◌, refl, List, ◌++◌, ltb, take, drop, get_or}
use Rattle.std.proofs.Common.{sym, ◌∙◌, add-zero, lt-ltb, le-ltb, length-append, take-append-drop, get_or-drop, length-take-le, take-take}
use Rattle.std.proofs.Math.Path.{ap, subst}
use native.Mathlib.Omega.{arith}
use Rattle.std.proofs.Math.ListN.{length}
use Rattle.basis.specs.Choice.{pick}
use Rattle.utf8.specs.Encoding.{bytes, encode, size}
use Rattle.utf8.specs.Sizes.{encode_cases, size_append}
use Rattle.utf8.specs.Decoding.{decode_at}
use Rattle.utf8.specs.RoundTrip.{encode_decode}
use Rattle.utf8.specs.Walk.{is_char, decode_at-bytes}
use Rattle.utf8.specs.declared.sequence.Decoded.{Decoded}
use Rattle.utf8.specs.declared.sequence.Decoded.TheVariants.{Char, Bad, End}
use Rattle.laws.specs.TokenLaws.{length-size}
use Rattle.parser.specs.Lexing.{chars_from}
use Rattle.parser.specs.ScanLaws.{chars-more, chars-none, char-room}
use Rattle.parser.specs.Shorter.{Between}

unfoldable pub lead_len : ℕ → ℕ
lead_len a = pick (ltb a 0x80) 1 (pick (ltb a 0xE0) 2 (pick (ltb a 0xF0) 3 4))

-- ---- one character

-- The first byte of what a character is written as.
abbrev Leading : List ℕ → ℕ → Type 0
Leading l n = (x : List ℕ) → lead_len (get_or (l ++ x) 0 0) ≡ n

lead-written : (c : ℕ) → Leading (encode c) (bytes c)
unfolding lead_len pick
lead-written c =
    encode_cases Leading c
    (λ h x. rw (lt-ltb c 0x80 h))
    (λ g h x. simp (le-ltb (0xC0 + c / 64) 0x80 (omega arith), lt-ltb (0xC0 + c / 64) 0xE0 (omega arith)))
    (λ g h x. simp (le-ltb (0xE0 + c / 4096) 0x80 (omega arith), le-ltb (0xE0 + c / 4096) 0xE0 (omega arith), lt-ltb (0xE0 + c / 4096) 0xF0 (omega arith)))
    (λ g x. simp (le-ltb (0xF0 + c / 262144) 0x80 (omega arith), le-ltb (0xF0 + c / 262144) 0xE0 (omega arith), le-ltb (0xF0 + c / 262144) 0xF0 (omega arith)))

pub lead_is : (t : List ℕ) (i c n : ℕ) → decode_at t i ≡ Char c n → lead_len (get_or t i 0) ≡ n
unfolding decode_at
lead_is t i c n e =
    let w = encode_decode (drop i t) c n e in
    let here : get_or (drop i t) 0 0 ≡ get_or t i 0 = get_or-drop i t 0 0 ∙ ap (λ (k : ℕ). get_or t k 0) (add-zero i) in
    let there : get_or (drop i t) 0 0 ≡ get_or (encode c ++ drop n (drop i t)) 0 0 = ap (λ (l : List ℕ). get_or l 0 0) w.2 in
    ap lead_len (sym here ∙ there) ∙ lead-written c (drop n (drop i t)) ∙ sym (decode_at-bytes t i c n e)

-- ---- so many

-- Behind some of so many characters the others are left.
pub record Skips (t : List ℕ) (from count at left : ℕ) : Type 0 where
  pub ends : from + size (take count (chars_from t from)) ≡ at + size (take left (chars_from t at))
  pub all : left ≤ length (chars_from t at)

-- One more, of the bytes that its first says.
pub record Skipped (t : List ℕ) (from count at left : ℕ) : Type 0 where
  pub inside : at < length t
  pub room : at + lead_len (get_or t at 0) ≤ length t
  pub more : Skips t from count (at + lead_len (get_or t at 0)) (left - 1)

module _ (t : List ℕ) (from count at : ℕ) where
  skip_read : (left : ℕ) → Skips t from count at (suc left) → (d : Decoded) → decode_at t at ≡ d → Skipped t from count at (suc left)
  unfolding size
  skip_read left s (Char c n) e =
      let r = char-room t at c n e in
      let is = chars-more t at c n e in
      let b = decode_at-bytes t at c n e in
      let cs = chars_from t (at + n) in
      let many : suc left ≤ suc (length cs) = rw is at s.all in
      let far : from + size (take count (chars_from t from)) ≡ at + (bytes c + size (take left cs)) = rw is at s.ends in
      let one : left ≡ suc left - 1 = omega arith in
      let lead = lead_is t at c n e in
      let so : Skips t from count (at + n) left = record { ends = omega arith; all = omega arith } in
      record {
        inside = omega arith;
        room = omega (arith, lead);
        more = subst (λ (k : ℕ). Skips t from count (at + k) (suc left - 1)) (sym lead) (subst (Skips t from count (at + n)) one so);
      }
  skip_read left s Bad e = absurd (omega (arith, s.all, ap length (chars-none t at (ap is_char e))))
  skip_read left s End e = absurd (omega (arith, s.all, ap length (chars-none t at (ap is_char e))))

  pub skip-more : (left : ℕ) → Skips t from count at left → 0 < left → Skipped t from count at left
  skip-more zero s h = absurd (omega arith)
  skip-more (suc left) s h = skip_read left s (decode_at t at) refl

  pub skip-end : (left : ℕ) → Skips t from count at left → left ≤ 0 → count ≤ length (chars_from t from) → Between t from at count
  unfolding size
  skip-end zero s h all = record { all = all; ends = omega (arith, s.ends) }
  skip-end (suc left) s h all = absurd (omega arith)

-- ---- as many bytes as characters

pub ascii_between : (t : List ℕ) (at end chars most : ℕ) → Between t at end chars → most ≤ chars → end - at ≡ chars → Between t at (at + most) most
ascii_between t at end chars most b few e =
    let cs = chars_from t at in
    let ys = take chars cs in
    let front = take most ys in
    let others = drop most ys in
    let both : front ++ others ≡ ys = take-append-drop most ys in
    let same : front ≡ take most cs = take-take most chars cs few in
    let long : length ys ≡ chars = length-take-le chars cs b.all in
    let short : length front ≡ most = length-take-le most ys (omega arith) in
    let one : size front ≡ most = omega (arith, b.ends, length-size front, length-size others, size_append front others, ap size both, length-append front others, ap length both) in
    record { all = omega (arith, b.all); ends = ap (λ (k : ℕ). at + k) (sym one ∙ ap size same) }
