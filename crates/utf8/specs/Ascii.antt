-- Text that is passed without decoding: bytes below 80, each a character by itself (Table 3-6), and other characters that are told.
-- Assumes nothing.
use Rattle.std.specs.Prelude.{◌≡◌, Bool, true, false, ◌&&◌, List, [], ◌∷◌, ℕ, zero, suc, ◌+◌, ◌-◌, ◌≤◌, ◌<◌, ltb, length, get_or, drop}
use Rattle.std.proofs.Common.{subst, arith, add-one, lt-ltb, ltb-true, drop-cons}
use Rattle.std.proofs.lemmas.Bool.{lt-leb}
use Rattle.basis.specs.Choice.{pick, pick_cases, and_true}
use Rattle.basis.specs.Order.{by_lt}
use Rattle.utf8.specs.Decoding.{seq_len, value, decode_head, decode_at, valid_prefix}
use Rattle.utf8.specs.Places.{cont, count_chars}
use Rattle.utf8.specs.Rows.{one-is}
use Rattle.utf8.specs.RoundTrip.{char_is}
use Rattle.utf8.specs.Prefix.{prefix-at-more}
use Rattle.utf8.specs.declared.sequence.Decoded.TheVariants.{Char}

pub decode_ascii : (t : List ℕ) (i : ℕ) → i < length t → get_or t i 0 < 0x80 → decode_at t i ≡ Char (get_or t i 0) 1
unfolding decode_at decode_head seq_len pick value
decode_ascii t i h l =
    let a = get_or t i 0 in
    rw (drop-cons t i 0 h, lt-ltb a 0x80 l) (char_is (a ∷ []) (one-is a l))

-- A byte that is no continuation begins a character.
pub count-more : (t : List ℕ) (i : ℕ) → i < length t → cont (get_or t i 0) ≡ false → count_chars (drop i t) ≡ suc (count_chars (drop (i + 1) t))
unfolding count_chars pick
count-more t i h e = rw (add-one, drop-cons t i 0 h) (simp e)

-- There are no more characters than bytes.
pub count-few : (t : List ℕ) → count_chars t ≤ length t
unfolding count_chars
count-few [] = omega arith
count-few (b ∷ t) = pick_cases (λ n. n ≤ suc (length t)) (cont b) (λ _. omega (arith, count-few t)) (λ _. omega (arith, count-few t))

-- From one position of a text to another UTF-8 goes on.
pub record Passed (t : List ℕ) (from to : ℕ) : Type 0 where
  pub forward : from ≤ to
  pub inside : to ≤ length t
  pub prefix : valid_prefix (drop from t) ≡ to - from + valid_prefix (drop to t)

module _ (t : List ℕ) (from : ℕ) where
  pub pass-none : from ≤ length t → Passed t from from
  pass-none h = record { forward = omega arith; inside = h; prefix = omega arith }

  -- One character more.
  pub pass-char : (i c n : ℕ) → decode_at t i ≡ Char c n → i + n ≤ length t → Passed t from i → Passed t from (i + n)
  pass-char i c n e h p =
      record {
        forward = omega (arith, p.forward);
        inside = h;
        prefix = omega (arith, p.forward, p.prefix, prefix-at-more t i c n e);
      }

  pub pass_on_lem : (i j : ℕ) → Passed t from i → Passed t i j → Passed t from j
  pass_on_lem i j p q =
      record {
        forward = omega (arith, p.forward, q.forward);
        inside = q.inside;
        prefix = omega (arith, p.forward, q.forward, p.prefix, q.prefix);
      }

-- Every byte of a stretch is below 80.
abbrev pub Below : List ℕ → (from to : ℕ) → Type 0
Below t from to = (i : ℕ) → from ≤ i → i < to → get_or t i 0 < 0x80

-- One byte more of a stretch that is tested byte by byte.
pub below-tested : (t : List ℕ) (from i : ℕ) (all : Bool) → (all ≡ true → Below t from i) → all && ltb (get_or t i 0) 0x80 ≡ true → Below t from (i + 1)
below-tested t from i all p e k low high =
    let both = and_true all (ltb (get_or t i 0) 0x80) e in
    by_lt k i (λ h. p both.0 k low h) (λ h. let q : i ≡ k = omega arith in subst (λ (j : ℕ). get_or t j 0 < 0x80) q (ltb-true (get_or t i 0) 0x80 both.1))

pub below-part : (t : List ℕ) (from to at end : ℕ) → from ≤ at → end ≤ to → Below t from to → Below t at end
below-part t from to at end h l b i low high = b i (omega arith) (omega arith)

-- The same as a stretch that is passed, where every byte is a character.
pub record Plain (t : List ℕ) (from to : ℕ) : Type 0 where
  pub passed : Passed t from to
  pub count : count_chars (drop from t) ≡ to - from + count_chars (drop to t)

module _ (t : List ℕ) (from : ℕ) where
  pub plain-none : from ≤ length t → Plain t from from
  plain-none h = record { passed = pass-none t from h; count = omega arith }

  -- One byte more.
  pub plain-one : (i : ℕ) → i < length t → get_or t i 0 < 0x80 → Plain t from i → Plain t from (i + 1)
  plain-one i h l p =
      let no : cont (get_or t i 0) ≡ false = simp (lt-leb 0x80 (get_or t i 0) l) in
      record {
        passed = pass-char t from i (get_or t i 0) 1 (decode_ascii t i h l) (omega arith) p.passed;
        count = omega (arith, p.passed.forward, p.count, count-more t i h no);
      }

  -- Each byte of a stretch, one after the other.
  plain-some : (to k : ℕ) → Below t from to → from + k ≤ to → to ≤ length t → Plain t from (from + k)
  plain-some to zero b h l = let e : from ≡ from + 0 = omega arith in subst (Plain t from) e (plain-none (omega arith))
  plain-some to (suc k) b h l =
      let e : from + k + 1 ≡ from + suc k = omega arith in
      subst (Plain t from) e (plain-one (from + k) (omega arith) (b (from + k) (omega arith) (omega arith)) (plain-some to k b (omega arith) l))

  pub plain-below : (to : ℕ) → from ≤ to → to ≤ length t → Below t from to → Plain t from to
  plain-below to h l b = let e : from + (to - from) ≡ to = omega arith in subst (Plain t from) e (plain-some to (to - from) b (omega arith) l)

  pub plain-on : (i j : ℕ) → Plain t from i → Plain t i j → Plain t from j
  plain-on i j p q =
      record {
        passed = pass_on_lem t from i j p.passed q.passed;
        count = omega (arith, p.passed.forward, q.passed.forward, p.count, q.count);
      }
