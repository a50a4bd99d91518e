-- The first characters from a position on, one after the other.
-- Assumes nothing.
use mathlib.Core.Path.{◌≡◌, refl}
use mathlib.Core.Bool.{false}
use mathlib.Core.List.{List, ◌∷◌}
use Prim.Native.Nat.{ℕ, zero, suc, ◌+◌, ◌-◌, ◌≤◌, ◌<◌}
use native.Mathlib.Omega.{arith}
use lib.ListN.{take}
use Rattle.basis.specs.Choice.{pick, by_test}
use Rattle.utf8.specs.Encoding.{size}
use Rattle.utf8.specs.Decoding.{decode_at}
use Rattle.utf8.specs.Walk.{is_char, decode_at-bytes}
use Rattle.utf8.specs.declared.sequence.Decoded.TheVariants.{Char}
use Rattle.meaning.specs.Characters.{glue}
use Rattle.meaning.specs.Words.{glues}
use Rattle.parser.specs.Lexing.{chars_from, part_of}
use Rattle.parser.specs.Scanning.{glue_of, part_at}
use Rattle.parser.specs.ScanLaws.{chars-more, chars-none}

-- How many bytes the first k characters from a position on have, and how many of them glue.
unfoldable pub size_to : List ℕ → ℕ → ℕ → ℕ
size_to t i k = size (take k (chars_from t i))

unfoldable pub glues_to : List ℕ → ℕ → ℕ → ℕ
glues_to t i k = glues (take k (chars_from t i))

pub glues-more : (c : ℕ) (cs : List ℕ) → glues (c ∷ cs) ≡ glue_of c + glues cs
unfolding glues glue_of pick
glues-more c cs = by_test (glue c) (λ e. rw e (omega arith)) (λ e. rw e (omega arith))

module _ (t : List ℕ) (i : ℕ) where
  -- One character more.
  pub to-more : (c n k : ℕ) → decode_at t i ≡ Char c n → 0 < k
      → (size_to t i k ≡ n + size_to t (i + n) (k - 1)) × (glues_to t i k ≡ glue_of c + glues_to t (i + n) (k - 1))
  unfolding size_to glues_to size
  to-more c n zero e h = absurd (omega arith)
  to-more c n (suc k) e h =
      let cs = take k (chars_from t (i + n)) in
      let p : suc k - 1 ≡ k = omega arith in
      rw (chars-more t i c n e, p) (omega (arith, decode_at-bytes t i c n e), glues-more c cs)

  -- No character more, by the text or by the count.
  pub to_none : (k : ℕ) → is_char (decode_at t i) ≡ false → (size_to t i k ≡ 0) × (glues_to t i k ≡ 0)
  unfolding size_to glues_to size glues
  to_none zero e = (refl, refl)
  to_none (suc k) e = rw (chars-none t i e) (refl, refl)

  pub to-zero : (k : ℕ) → k ≤ 0 → (size_to t i k ≡ 0) × (glues_to t i k ≡ 0)
  unfolding size_to glues_to size glues
  to-zero zero h = (refl, refl)
  to-zero (suc k) h = absurd (omega arith)

  pub part-is : (k end g : ℕ) → end ≡ i + size_to t i k → g ≡ glues_to t i k → part_at end g ≡ part_of i k (chars_from t i)
  unfolding part_at part_of size_to glues_to
  part-is k end g p q = λ j. record { end = record { 0 = p j }; glues = record { 0 = q j } }
