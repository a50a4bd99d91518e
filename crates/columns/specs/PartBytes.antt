-- The widest part of a text between its ends of lines is no wider by characters than by bytes; and one look over the bytes (rule 2, rule 4,
-- Table 3-6).
-- Assumes nothing.
use Prim.Native.Nat.{ℕ, ◌+◌, ◌*◌, ◌/◌, ◌≤◌, ◌<◌, max}
use Rattle.std.specs.Prelude.{◌≡◌, true, false, length}
use Rattle.std.proofs.Math.Path.{sym, ap}
use Rattle.std.proofs.Common.{◌∙◌, one-mul, mul-le-mul_right, drop-cons}
use mathlib.Core.List.{List, [], ◌∷◌, ◌++◌}
use native.Mathlib.Omega.{arith}
use Rattle.std.proofs.Math.Numerals.{add-one}
use borrow.Author.Tests.{eq-eqb, ne_eqb}
use Rattle.std.proofs.Math.ListN.{get_or, drop, drop_of_length-le}
use Rattle.basis.specs.Choice.{pick, pick_true, pick-false, by_test}
use Rattle.basis.specs.Order.{by_lt, by_eq}
use Rattle.utf8.specs.Encoding.{trail, encode}
use Rattle.utf8.specs.Decoding.{decode_head, decode_all}
use Rattle.utf8.specs.RoundTrip.{encode_decode}
use Rattle.utf8.specs.Sizes.{encode_one, encode_cases, bytes-is, bytes_range}
use Rattle.utf8.specs.Walk.{all_more, all_none, along}
use Rattle.utf8.specs.declared.sequence.Decoded.TheVariants.{Char}
use Rattle.laws.specs.Runs.{Pass}
use Rattle.widths.specs.LineParts.{breaks, in_part}
use Rattle.widths.specs.TabStops.{next_stop}
use Rattle.widths.specs.WidestPart.{past_char, part_end, widest_part, past_least, end-over, end_on, part-more, end-joined, first-widest, widest-rest}
use Rattle.moves.specs.FineLaws.{next-stop}

-- ---- characters and bytes

high-inside : (b : ℕ) → 0x80 ≤ b → in_part b ≡ true
unfolding breaks pick
high-inside b h = rw (ne_eqb b 0x000A (λ e. omega arith), ne_eqb b 0x000D (λ e. omega arith))

-- Only LF and CR have bytes that end a line: their own.
encoded-inside : (c : ℕ) → breaks c ≡ false → Pass in_part (encode c)
encoded-inside c e =
    encode_cases (λ bs n. Pass in_part bs) c (λ _. (rw e, tt))
    (λ _ _. (high-inside (0xC0 + c / 64) (omega arith), (high-inside (trail c) (omega arith), tt)))
    (λ _ _. (high-inside (0xE0 + c / 4096) (omega arith), (high-inside (trail (c / 64)) (omega arith), (high-inside (trail c) (omega arith), tt))))
    (λ _. (
      high-inside (0xF0 + c / 262144) (omega arith),
      (high-inside (trail (c / 4096)) (omega arith), (high-inside (trail (c / 64)) (omega arith), (high-inside (trail c) (omega arith), tt))),
    ))

module _ (g t : ℕ) where
  -- A character that is no tab goes on by a glyph.
  plain-past : (at c : ℕ) → 0x80 ≤ c → past_char g t at c ≡ at + g
  unfolding past_char pick
  plain-past at c h = rw (ne_eqb c 0x0009 (λ e. omega arith))

  -- Its bytes go no less far.
  encoded-past : (c at : ℕ) (s : List ℕ) → breaks c ≡ false → part_end g t (past_char g t at c) s ≤ part_end g t at (encode c ++ s)
  encoded-past c at s e =
      by_lt c 0x80 (λ low. rw (encode_one c low) (omega (arith, end_on g t at c s e)))
      (λ high.
      let some : 1 * g ≤ length (encode c) * g = mul-le-mul_right g (omega (arith, bytes-is c, (bytes_range c).0)) in
      let less = part-more g t s (past_char g t at c) (at + length (encode c) * g) (omega (arith, plain-past at c high, some, one-mul g)) in
      omega (arith, less, end-joined g t (encode c) s at (encoded-inside c e)))

  -- Parts of characters are no wider than those of bytes.
  record Narrower (cs s : List ℕ) : Type 0 where
    first : (at : ℕ) → part_end g t at cs ≤ part_end g t at s
    widest : widest_part g t cs ≤ widest_part g t s

  -- A part ends where it begins, or further on.
  end_least : (cs : List ℕ) (at : ℕ) → at ≤ part_end g t at cs
  unfolding part_end
  end_least [] at = omega arith
  end_least (c ∷ cs) at =
      by_test (breaks c) (λ e. omega (arith, end-over g t at c cs e))
      (λ e. omega (arith, end_on g t at c cs e, past_least g t at c, end_least cs (past_char g t at c)))

  none-narrower : (s : List ℕ) → Narrower [] s
  unfolding part_end widest_part
  none-narrower s = record { first = λ at. end_least s at; widest = omega arith }

  first-narrower : (c n : ℕ) (cs s : List ℕ) → decode_head s ≡ Char c n → Narrower cs (drop n s) → (at : ℕ) → part_end g t at (c ∷ cs) ≤ part_end g t at s
  first-narrower c n cs s e h at =
      let is = ap (part_end g t at) (encode_decode s c n e).2 in
      by_test (breaks c) (λ d. omega (arith, end-over g t at c cs d, end_least s at))
      (λ d. omega (arith, end_on g t at c cs d, h.first (past_char g t at c), encoded-past c at (drop n s) d, is))

  more-narrower : (c n : ℕ) (cs s : List ℕ) → decode_head s ≡ Char c n → Narrower cs (drop n s) → Narrower (c ∷ cs) s
  unfolding widest_part
  more-narrower c n cs s e h =
      let first = first-narrower c n cs s e h in
      record { first = first; widest = omega (arith, first 0, first-widest g t s, h.widest, widest-rest g t n s) }

  read-narrower : (s : List ℕ) → Narrower (decode_all s) s
  read-narrower =
      along (λ s. Narrower (decode_all s) s) (λ s e. rw (all_none s e) (none-narrower s))
      (λ s c n e rest. rw (all_more s c n e) (more-narrower c n (decode_all (drop n s)) s e rest))

  pub widest-read : (s : List ℕ) → widest_part g t (decode_all s) ≤ widest_part g t s
  widest-read s = (read-narrower s).widest

-- ---- one byte more

module _ (g t at b : ℕ) where
  pub tab-past : b ≡ 9 → (r : ℕ) → r ≡ max (next_stop t at) (at + g) → r ≡ past_char g t at b
  unfolding past_char
  tab-past e r is = is ∙ sym (pick_true _ _ _ (eq-eqb b 9 e))

  pub other_past : (b ≡ 9 → ⊥) → at + g ≡ past_char g t at b
  unfolding past_char
  other_past d = sym (pick-false _ _ _ (ne_eqb b 9 d))

  -- The part ends, or goes on.
  pub part-ends : (r : ℕ) → breaks b ≡ true → r ≡ 0 → r ≡ pick (breaks b) 0 (past_char g t at b)
  part-ends r e is = is ∙ sym (pick_true (breaks b) 0 (past_char g t at b) e)

  pub part-goes : (r : ℕ) → breaks b ≡ false → r ≡ past_char g t at b → r ≡ pick (breaks b) 0 (past_char g t at b)
  part-goes r e is = is ∙ sym (pick-false (breaks b) 0 (past_char g t at b) e)

  -- It goes no further than a tab can.
  past_bound : g ≤ 64 → t ≤ 4096 → past_char g t at b ≤ at + 4096
  unfolding past_char next_stop pick
  past_bound small most =
      by_eq b 9
      (λ e.
      by_eq t 0 (λ z. rw (eq-eqb b 9 e, eq-eqb t 0 z) (omega arith))
      (λ d. rw (eq-eqb b 9 e, ne_eqb t 0 d) (omega (arith, next-stop at t (omega arith)))))
      (λ d. rw (ne_eqb b 9 d) (omega arith))

-- ---- one look over the bytes

-- The part at hand goes so far up to here, and the widest so far; the bytes from here on decide.
pub record WideTo (g t : ℕ) (s : List ℕ) (i at widest : ℕ) : Type 0 where
  pub inside : i ≤ length s
  pub low : at ≤ widest
  pub bound : widest ≤ i * 4096
  pub same : widest_part g t s ≡ max widest (max (part_end g t at (drop i s)) (widest_part g t (drop i s)))

module _ (g t : ℕ) where
  pub wide-start : (s : List ℕ) → WideTo g t s 0 0 0
  wide-start s = record { inside = omega arith; low = omega arith; bound = omega arith; same = omega (arith, first-widest g t s) }

  module _ (s : List ℕ) (i at widest : ℕ) (f : WideTo g t s i at widest) where
    -- One byte more.
    pub wide-next : g ≤ 64 → t ≤ 4096 → i < length s → (p l : ℕ) → p ≡ pick (breaks (get_or s i 0)) 0 (past_char g t at (get_or s i 0)) → l ≡ max widest p
        → WideTo g t s (i + 1) p l
    unfolding widest_part
    wide-next small most h p l is more =
        let b = get_or s i 0 in
        let rest = drop (i + 1) s in
        let here : drop i s ≡ b ∷ rest = rw add-one (drop-cons s i 0 h) in
        let end : part_end g t at (drop i s) ≡ part_end g t at (b ∷ rest) = ap (part_end g t at) here in
        let all : widest_part g t (drop i s) ≡ max (part_end g t 0 (b ∷ rest)) (widest_part g t rest) = ap (widest_part g t) here in
        let front = first-widest g t rest in
        by_test (breaks b)
        (λ e.
        let over : p ≡ 0 = is ∙ pick_true (breaks b) 0 (past_char g t at b) e in
        let next : part_end g t p rest ≡ part_end g t 0 rest = ap (λ (x : ℕ). part_end g t x rest) over in
        record {
          inside = omega arith;
          low = omega (arith, over);
          bound = omega (arith, over, more, f.bound);
          same = omega (arith, f.same, f.low, over, next, more, end, all, end-over g t at b rest e, end-over g t 0 b rest e, front);
        })
        (λ e.
        let on : p ≡ past_char g t at b = is ∙ pick-false (breaks b) 0 (past_char g t at b) e in
        let next : part_end g t p rest ≡ part_end g t (past_char g t at b) rest = ap (λ (x : ℕ). part_end g t x rest) on in
        let further = part-more g t (b ∷ rest) 0 at (omega arith) in
        let least = end_least g t rest p in
        let reach = past_bound g t at b small most in
        record {
          inside = omega arith;
          low = omega (arith, more);
          bound = omega (arith, on, reach, f.low, f.bound, more);
          same = omega (arith, f.same, f.low, on, next, more, end, all, end_on g t at b rest e, further, least, front);
        })

    -- None is left.
    pub wide-done : length s ≤ i → (widest ≡ widest_part g t s) × (widest ≤ length s * 4096)
    unfolding part_end widest_part
    wide-done h =
        let none = drop_of_length-le s h in
        (omega (arith, f.same, f.low, ap (part_end g t at) none, ap (widest_part g t) none), omega (arith, f.inside, f.bound))
