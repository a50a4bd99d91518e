-- Text of ASCII as the scans meet it: bytes 21 to 7F are of words; a space, a line feed or the text's end ends one.
-- Assumes nothing.
use Rattle.std.specs.Prelude.{◌≡◌, Bool, true, false, ◌&&◌, ◌||◌, List, ℕ, ◌<◌, ltb, length, get_or}
use Rattle.std.proofs.Common.{ap, ◌∙◌, arith, ltb-true, eqb-true}
use Rattle.std.proofs.lemmas.Bool.{false≢true}
use Rattle.std.proofs.Math.Dec.{eqb}
use Rattle.basis.specs.Choice.{pick, pick_cases, and_true}
use Rattle.utf8.specs.Decoding.{decode_at}
use Rattle.utf8.specs.Ascii.{decode_ascii}
use Rattle.utf8.specs.declared.sequence.Decoded.TheVariants.{Char}

abbrev pub plain : ℕ → Bool
plain b = ltb 0x20 b && ltb b 0x80

unfoldable pub plain_at : List ℕ → ℕ → Bool
plain_at t i = pick (ltb i (length t)) (plain (get_or t i 0)) false

unfoldable pub space_at : List ℕ → ℕ → Bool
space_at t i = pick (ltb i (length t)) (eqb (get_or t i 0) 0x20) false

unfoldable pub feed_at : List ℕ → ℕ → Bool
feed_at t i = pick (ltb i (length t)) (eqb (get_or t i 0) 0x0A) false

abbrev pub is_ender : ℕ → Bool
is_ender b = eqb b 0x20 || eqb b 0x0A

unfoldable pub ender_at : List ℕ → ℕ → Bool
ender_at t i = pick (ltb i (length t)) (is_ender (get_or t i 0)) true

pub plain_range : (b : ℕ) → plain b ≡ true → (0x20 < b) × (b < 0x80)
plain_range b e = let f = and_true (ltb 0x20 b) (ltb b 0x80) e in (ltb-true 0x20 b f.0, ltb-true b 0x80 f.1)

-- What stands at a position where one of these bytes does.
module _ (t : List ℕ) (i : ℕ) where
  read_if : (P : ℕ → Bool) → pick (ltb i (length t)) (P (get_or t i 0)) false ≡ true → (i < length t) × (P (get_or t i 0) ≡ true)
  read_if P = pick_cases (λ (b : Bool). b ≡ true → (i < length t) × (P (get_or t i 0) ≡ true)) (ltb i (length t))
      (λ h e. (ltb-true i (length t) h, e)) (λ _ e. absurd (false≢true e))

  -- One byte of ASCII.
  read_one : (x : ℕ) → x < 0x80 → pick (ltb i (length t)) (eqb (get_or t i 0) x) false ≡ true → decode_at t i ≡ Char x 1
  read_one x l e =
      let f = read_if (λ b. eqb b x) e in
      let s = eqb-true (get_or t i 0) x f.1 in
      decode_ascii t i f.0 (omega arith) ∙ ap (λ (b : ℕ). Char b 1) s

  pub plain_byte : plain_at t i ≡ true → (i < length t) × (plain (get_or t i 0) ≡ true)
  unfolding plain_at
  plain_byte e = read_if plain e

  pub plain-inside : plain_at t i ≡ true → i < length t
  plain-inside e = (plain_byte e).0

  pub space-inside : space_at t i ≡ true → i < length t
  unfolding space_at
  space-inside e = (read_if (λ b. eqb b 0x20) e).0

  pub space-char : space_at t i ≡ true → decode_at t i ≡ Char 0x20 1
  unfolding space_at
  space-char e = read_one 0x20 (omega arith) e

  pub feed_char : feed_at t i ≡ true → decode_at t i ≡ Char 0x0A 1
  unfolding feed_at
  feed_char e = read_one 0x0A (omega arith) e
