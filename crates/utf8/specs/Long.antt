-- Letters of two and three bytes that their bytes tell: what they are made of is a character, and none that does something else in a
-- text than a letter does (Tables 3-6 and 3-7, PropList.txt).
-- Assumes nothing.
use Rattle.std.specs.Prelude.{◌≡◌, Bool, true, false, ◌&&◌, ◌||◌, not, List, [], ◌∷◌, ℕ, ◌+◌, ◌≤◌, ◌<◌, leb, ltb, eqb, length, drop}
use Rattle.std.proofs.Common.{ap, ◌∙◌, inl, inr, arith, add-one, drop-cons}
use borrow.Author.Tests.{le-ltb, lt-ltb, ltb-true, leb-true, eqb-true, eqb-false, not-true}
use Rattle.std.proofs.Math.ListN.{get_or}
use Rattle.basis.specs.Choice.{pick, and_true, by-either}
use Rattle.basis.specs.Order.{by_lt}
use Rattle.utf8.specs.Scalar.{Scalar}
use Rattle.utf8.specs.Decoding.{seq_len, value, value2, value3, decode_head, decode_at}
use Rattle.utf8.specs.WhiteSpace.{is_white}
use Rattle.utf8.specs.Members.{above-all, between-spaces, between-breaks, below_ideographs}
use Rattle.utf8.specs.Rows.{Cont, Two, Three, two_is, three-is}
use Rattle.utf8.specs.RoundTrip.{char_is}
use Rattle.utf8.specs.declared.sequence.Decoded.TheVariants.{Char}

-- A number above U+00A0 that is neither white space nor the soft hyphen nor the zero width space.
pub record Black (c : ℕ) : Type 0 where
  pub high : 0xA0 < c
  pub hard : c ≡ 0x00AD → ⊥
  pub shown : c ≡ 0x200B → ⊥
  pub solid : is_white c ≡ false

-- Two and three bytes that are such a letter, and such a letter of so many bytes at a position.
pub record Couple (a b : ℕ) : Type 0 where
  pub two : Two a b
  pub black : Black (value2 a b)

pub record Triple (a b c : ℕ) : Type 0 where
  pub three : Three a b c
  pub black : Black (value3 a b c)

pub record Long (t : List ℕ) (i n : ℕ) : Type 0 where
  pub char : ℕ
  pub is : decode_at t i ≡ Char char n
  pub black : Black char

-- ---- stretches of numbers without white space

module _ (c : ℕ) where
  black-low : 0xA0 < c → (c ≡ 0x00AD → ⊥) → c < 0x1680 → Black c
  black-low h n l = record { high = h; hard = n; shown = λ e. omega arith; solid = between-spaces c h l }

  black-mark : 0x200B < c → c < 0x2028 → Black c
  black-mark h l = record { high = omega arith; hard = λ e. omega arith; shown = λ e. omega arith; solid = between-breaks c (omega arith) l }

  black_sign : 0x205F < c → c < 0x3000 → Black c
  black_sign h l = record { high = omega arith; hard = λ e. omega arith; shown = λ e. omega arith; solid = below_ideographs c h l }

  black-high : 0x3000 < c → Black c
  black-high h = record { high = omega arith; hard = λ e. omega arith; shown = λ e. omega arith; solid = above-all c h }

-- ---- two bytes

-- The second one behind C2.
abbrev pub latin : ℕ → Bool
latin b = leb 0xA1 b && leb b 0xBF && not (eqb b 0xAD)

module _ (a b : ℕ) where
  pub latin_couple : a ≡ 0xC2 → latin b ≡ true → Couple a b
  latin_couple e f =
      let two = and_true (leb 0xA1 b && leb b 0xBF) (not (eqb b 0xAD)) f in
      let one = and_true (leb 0xA1 b) (leb b 0xBF) two.0 in
      let lo = leb-true 0xA1 b one.0 in
      let hi = leb-true b 0xBF one.1 in
      let n = eqb-false b 0xAD (not-true (eqb b 0xAD) two.1) in
      record {
        two = record { lead = omega arith; second = omega arith };
        black = black-low (value2 a b) (omega arith) (λ q. n (omega arith)) (omega arith);
      }

  pub high_couple : 0xC3 ≤ a → a < 0xE0 → Cont b → Couple a b
  high_couple lo hi s =
      record { two = record { lead = omega arith; second = s }; black = black-low (value2 a b) (omega arith) (λ q. omega arith) (omega arith) }

-- ---- three bytes

module _ (b c : ℕ) (t : Cont c) where
  pub mark_triple : b ≡ 0x80 → 0x90 ≤ c → c ≤ 0xA7 → Triple 0xE2 b c
  mark_triple e lo hi = record {
    three = record { lead = omega arith; second = omega arith; third = t; long = omega arith; scalar = inl (omega arith) };
    black = black-mark (value3 0xE2 b c) (omega arith) (omega arith);
  }

  pub sign_triple : 0x82 ≤ b → b ≤ 0xBF → Triple 0xE2 b c
  sign_triple lo hi = record {
    three = record { lead = omega arith; second = omega arith; third = t; long = omega arith; scalar = inl (omega arith) };
    black = black_sign (value3 0xE2 b c) (omega arith) (omega arith);
  }

module _ (a b c : ℕ) (s : Cont b) (t : Cont c) where
  high_triple : 0xE3 ≤ a → a ≤ 0xEF → 0x3000 < value3 a b c → Scalar (value3 a b c) → Triple a b c
  high_triple lo hi h v = record {
    three = record { lead = omega arith; second = s; third = t; long = omega arith; scalar = v };
    black = black-high (value3 a b c) h;
  }

  -- The first lead, without U+3000; that of the surrogates, without them; and all others.
  pub first_triple : a ≡ 0xE3 → ltb 0x80 b || ltb 0x80 c ≡ true → Triple a b c
  first_triple e o =
      by-either (ltb 0x80 b) (ltb 0x80 c) o
      (λ p. let h = ltb-true 0x80 b p in high_triple (omega arith) (omega arith) (omega arith) (inl (omega arith)))
      (λ p. let h = ltb-true 0x80 c p in high_triple (omega arith) (omega arith) (omega arith) (inl (omega arith)))

  pub hangul_triple : a ≡ 0xED → b < 0xA0 → Triple a b c
  hangul_triple e h = high_triple (omega arith) (omega arith) (omega arith) (inl (omega arith))

  pub other_triple : (a ≡ 0xED → ⊥) → 0xE3 < a → a < 0xF0 → Triple a b c
  other_triple n lo hi =
      by_lt a 0xED
      (λ h. high_triple (omega arith) (omega arith) (omega arith) (inl (omega arith)))
      (λ h. let g : 0xED < a = omega (arith, n) in high_triple (omega arith) (omega arith) (omega arith) (inr (omega arith)))

-- The fewest tests: a lead from E3 to EC and a second byte from 81 on.
abbrev pub wide : ℕ → ℕ → ℕ → Bool
wide a b c = leb 0xE3 a && leb a 0xEC && leb 0x81 b && leb b 0xBF && leb 0x80 c && leb c 0xBF

module _ (a b c : ℕ) (e : wide a b c ≡ true) where
  wide_range : (0xE3 ≤ a) × (a ≤ 0xEC) × (0x81 ≤ b) × (b ≤ 0xBF) × (0x80 ≤ c) × (c ≤ 0xBF)
  wide_range =
      let p = leb 0xE3 a in
      let q = leb a 0xEC in
      let r = leb 0x81 b in
      let s = leb b 0xBF in
      let u = leb 0x80 c in
      let five = and_true (p && q && r && s && u) (leb c 0xBF) e in
      let four = and_true (p && q && r && s) u five.0 in
      let three = and_true (p && q && r) s four.0 in
      let two = and_true (p && q) r three.0 in
      let one = and_true p q two.0 in
      (leb-true 0xE3 a one.0, leb-true a 0xEC one.1, leb-true 0x81 b two.1, leb-true b 0xBF three.1, leb-true 0x80 c four.1, leb-true c 0xBF five.1)

  pub wide_triple : Triple a b c
  wide_triple = let r = wide_range in high_triple a b c (omega arith) (omega arith) (omega arith) (omega arith) (omega arith) (inl (omega arith))

-- Above U+3000 in its block.
abbrev pub mark : ℕ → ℕ → ℕ → Bool
mark a b c = eqb a 0xE3 && eqb b 0x80 && leb 0x81 c && leb c 0xBF

pub ideographic_triple : (a b c : ℕ) → mark a b c ≡ true → Triple a b c
ideographic_triple a b c e =
    let p = eqb a 0xE3 in
    let q = eqb b 0x80 in
    let r = leb 0x81 c in
    let three = and_true (p && q && r) (leb c 0xBF) e in
    let two = and_true (p && q) r three.0 in
    let one = and_true p q two.0 in
    let x = eqb-true a 0xE3 one.0 in
    let y = eqb-true b 0x80 one.1 in
    let lo = leb-true 0x81 c two.1 in
    let hi = leb-true c 0xBF three.1 in
    high_triple a b c (omega arith) (omega arith) (omega arith) (omega arith) (omega arith) (inl (omega arith))

-- ---- at a position

module _ (t : List ℕ) (i : ℕ) where
  two_bytes : i + 2 ≤ length t → drop i t ≡ get_or t i 0 ∷ get_or t (i + 1) 0 ∷ drop (i + 2) t
  two_bytes h =
      let e : i + 1 + 1 ≡ i + 2 = omega arith in
      drop-cons t i 0 (omega arith)
      ∙ rw (← (add-one i)) (ap (λ (l : List ℕ). get_or t i 0 ∷ l) (drop-cons t (i + 1) 0 (omega arith) ∙ rw (← (add-one (i + 1)), e)))

  three-bytes : i + 3 ≤ length t → drop i t ≡ get_or t i 0 ∷ get_or t (i + 1) 0 ∷ get_or t (i + 2) 0 ∷ drop (i + 3) t
  three-bytes h =
      let f : i + 2 + 1 ≡ i + 3 = omega arith in
      two_bytes (omega arith)
      ∙ ap (λ (l : List ℕ). get_or t i 0 ∷ get_or t (i + 1) 0 ∷ l) (drop-cons t (i + 2) 0 (omega arith) ∙ rw (← (add-one (i + 2)), f))

  pub decode_two : i + 2 ≤ length t → Two (get_or t i 0) (get_or t (i + 1) 0) → decode_at t i ≡ Char (value2 (get_or t i 0) (get_or t (i + 1) 0)) 2
  unfolding decode_at decode_head seq_len pick value
  decode_two h x =
      let a = get_or t i 0 in
      let b = get_or t (i + 1) 0 in
      let l = x.lead in
      rw (two_bytes h, le-ltb a 0x80 (omega arith), le-ltb a 0xC0 (omega arith), lt-ltb a 0xE0 (omega arith)) (char_is (a ∷ b ∷ []) (two_is a b x))

  pub long-two : i + 2 ≤ length t → Couple (get_or t i 0) (get_or t (i + 1) 0) → Long t i 2
  long-two h x = record { char = value2 (get_or t i 0) (get_or t (i + 1) 0); is = decode_two h x.two; black = x.black }

  pub decode_three : i + 3 ≤ length t → Three (get_or t i 0) (get_or t (i + 1) 0) (get_or t (i + 2) 0)
      → decode_at t i ≡ Char (value3 (get_or t i 0) (get_or t (i + 1) 0) (get_or t (i + 2) 0)) 3
  unfolding decode_at decode_head seq_len pick value
  decode_three h x =
      let a = get_or t i 0 in
      let b = get_or t (i + 1) 0 in
      let c = get_or t (i + 2) 0 in
      let l = x.lead in
      rw (three-bytes h, le-ltb a 0x80 (omega arith), le-ltb a 0xC0 (omega arith), le-ltb a 0xE0 (omega arith), lt-ltb a 0xF0 (omega arith))
      (char_is (a ∷ b ∷ c ∷ []) (three-is a b c x))

  pub long-three : i + 3 ≤ length t → Triple (get_or t i 0) (get_or t (i + 1) 0) (get_or t (i + 2) 0) → Long t i 3
  long-three h x = record { char = value3 (get_or t i 0) (get_or t (i + 1) 0) (get_or t (i + 2) 0); is = decode_three h x.three; black = x.black }
