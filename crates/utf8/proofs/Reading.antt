-- What bytes are read as: two, three or four of them, and those at a position of a text.
-- Assumes nothing.
use mathlib.Core.Path.{◌≡◌, sym, ◌∙◌}
use mathlib.Core.Bool.{true, false, false≢true}
use mathlib.Core.List.{List, [], ◌∷◌}
use Prim.Native.Nat.{ℕ, suc, ◌+◌, ◌-◌, ◌≤◌, ◌<◌}
use native.Mathlib.Numerals.{add-one}
use native.Mathlib.Omega.{arith}
use lib.Dec.{eqb, ltb}
use lib.ListN.{length, get_or, take, drop, length-drop, drop_of_length-le}
use lib.Seq.{drop-cons}
use borrow.Author.Tests.{eq-eqb, ltb-true}
use Rattle.basis.specs.Choice.{pick, pick_cases}
use Rattle.basis.specs.Order.{within, within-is}
use Rattle.basis.specs.Tables.{agree-below}
use Rattle.utf8.specs.WellFormed.{rows, fits, some_fits, well_formed}
use Rattle.utf8.specs.Decoding.{seq_len, value2, value3, value4, value, char_of, decode_head, decode_at}
use Rattle.utf8.specs.Rows.{Two, Three, Four, one-is, two-true, two_is, three-true, three-is, four-true, four_is}
use Rattle.utf8.specs.RoundTrip.{char_bad, char_is, head_cut}
use Rattle.utf8.specs.declared.sequence.Decoded.TheVariants.{Char, Bad, End}

-- A test that failed shuts out the bounds that it tests.
pub outside : (lo hi x : ℕ) → within lo hi x ≡ false → (lo ≤ x) × (x ≤ hi) → ⊥
outside lo hi x e p = false≢true (sym e ∙ within-is lo hi x p.0 p.1)

-- ---- two, three and four bytes are read where they meet what the rows say, and else refused

module _ (a b : ℕ) where
  pub two_no : (Two a b → ⊥) → Bad ≡ char_of (a ∷ b ∷ [])
  two_no n = sym (char_bad (a ∷ b ∷ []) (λ w. n (two-true a b w)))

  pub two_yes : Two a b → Char (value2 a b) 2 ≡ char_of (a ∷ b ∷ [])
  unfolding value
  two_yes t = sym (char_is (a ∷ b ∷ []) (two_is a b t))

module _ (a b c : ℕ) where
  pub three_no : (Three a b c → ⊥) → Bad ≡ char_of (a ∷ b ∷ c ∷ [])
  three_no n = sym (char_bad (a ∷ b ∷ c ∷ []) (λ w. n (three-true a b c w)))

  pub three_yes : Three a b c → Char (value3 a b c) 3 ≡ char_of (a ∷ b ∷ c ∷ [])
  unfolding value
  three_yes t = sym (char_is (a ∷ b ∷ c ∷ []) (three-is a b c t))

module _ (a b c d : ℕ) where
  pub four_no : (Four a b c d → ⊥) → Bad ≡ char_of (a ∷ b ∷ c ∷ d ∷ [])
  four_no n = sym (char_bad (a ∷ b ∷ c ∷ d ∷ []) (λ w. n (four-true a b c d w)))

  pub four_yes : Four a b c d → Char (value4 a b c d) 4 ≡ char_of (a ∷ b ∷ c ∷ d ∷ [])
  unfolding value
  four_yes t = sym (char_is (a ∷ b ∷ c ∷ d ∷ []) (four_is a b c d t))

-- ---- at a position

-- The lead of a sequence of one byte.
one-lead : (a : ℕ) → a < 256 → seq_len a ≡ 1 → a < 0x80
unfolding seq_len pick
one-lead a h e = ltb-true a 0x80 (sym (agree-below (λ k. eqb (seq_len k) 1) (λ k. ltb k 0x80) 256 tt a h) ∙ eq-eqb (seq_len a) 1 e)

-- No lead says more than four bytes.
pub lead-four : (a : ℕ) → seq_len a ≤ 4
unfolding seq_len
lead-four a =
    let P : ℕ → Type 0 = λ n. n ≤ 4 in
    pick_cases P (ltb a 0x80) (λ _. omega arith)
    (λ _. pick_cases P (ltb a 0xC0) (λ _. omega arith)
    (λ _. pick_cases P (ltb a 0xE0) (λ _. omega arith)
    (λ _. pick_cases P (ltb a 0xF0) (λ _. omega arith) (λ _. pick_cases P (ltb a 0xF8) (λ _. omega arith) (λ _. omega arith)))))

no_bytes : well_formed [] ≡ true → ⊥
unfolding well_formed rows some_fits fits
no_bytes e = false≢true e

module _ (t : List ℕ) where
  -- The bytes from a position on, one by one.
  from_one : (i k : ℕ) → i < length t → take (suc k) (drop i t) ≡ get_or t i 0 ∷ take k (drop (i + 1) t)
  from_one i k h = rw (add-one, drop-cons t i 0 h)

  from-two : (i k : ℕ) → i + 1 < length t → take (suc (suc k)) (drop i t) ≡ get_or t i 0 ∷ get_or t (i + 1) 0 ∷ take k (drop (i + 2) t)
  from-two i k h =
      let e : i + 1 + 1 ≡ i + 2 = omega arith in
      rw (from_one i (suc k) (omega arith), from_one (i + 1) k h, e)

  module _ (i : ℕ) where
    pub at-end : length t ≤ i → End ≡ decode_at t i
    unfolding decode_at decode_head
    at-end h = rw (drop_of_length-le t h)

    -- A byte stands there, and says that n bytes belong together.
    module _ (h : i < length t) (n : ℕ) (e : n ≡ seq_len (get_or t i 0)) where
      pub at_cut : length t - i < n → Bad ≡ decode_at t i
      unfolding decode_at
      at_cut l = rw (drop-cons t i 0 h) (sym (head_cut (get_or t i 0) (drop (suc i) t) (omega (arith, length-drop (suc i) t))))

      at-is : (k : ℕ) → n ≡ k → decode_at t i ≡ char_of (take k (drop i t))
      unfolding decode_at decode_head
      at-is k q = rw (drop-cons t i 0 h, ← e, q)

      pub at_none : n ≡ 0 → Bad ≡ decode_at t i
      at_none q = sym (at-is 0 q ∙ char_bad [] no_bytes)

      pub at_one : get_or t i 0 < 256 → n ≡ 1 → Char (get_or t i 0) 1 ≡ decode_at t i
      unfolding value
      at_one b q =
          let a = get_or t i 0 in
          sym (at-is 1 q ∙ rw (from_one i 0 h) (char_is (a ∷ []) (one-is a (one-lead a b (sym e ∙ q)))))

      module _ (room : n ≤ length t - i) where
        pub at-two : n ≡ 2 → char_of (get_or t i 0 ∷ get_or t (i + 1) 0 ∷ []) ≡ decode_at t i
        at-two q = sym (at-is 2 q ∙ rw (from-two i 0 (omega arith)))

        pub at-three : n ≡ 3 → char_of (get_or t i 0 ∷ get_or t (i + 1) 0 ∷ get_or t (i + 2) 0 ∷ []) ≡ decode_at t i
        at-three q = sym (at-is 3 q ∙ rw (from-two i 1 (omega arith), from_one (i + 2) 0 (omega arith)))

        pub at-four : n ≡ 4 → char_of (get_or t i 0 ∷ get_or t (i + 1) 0 ∷ get_or t (i + 2) 0 ∷ get_or t (i + 3) 0 ∷ []) ≡ decode_at t i
        at-four q =
            let z : i + 2 + 1 ≡ i + 3 = omega arith in
            sym (at-is 4 q ∙ rw (from-two i 2 (omega arith), from-two (i + 2) 0 (omega arith), z))
