-- What a scan passes is a run: its bytes, its characters, what they weigh, and what ends it.
-- Assumes nothing.
use Rattle.std.specs.Prelude.{◌≡◌, Bool, ℕ, ◌+◌, eqb, length}
use Rattle.std.proofs.Math.Path.{refl}
use Rattle.std.proofs.Common.{◌∙◌, arith}
use mathlib.Core.List.{List, [], ◌∷◌}
use Rattle.basis.specs.Choice.{pick, by_test}
use Rattle.utf8.specs.Encoding.{bytes, size}
use Rattle.meaning.specs.Characters.{glue}
use Rattle.meaning.specs.Tokens.{run, after, ender, counted}
use Rattle.meaning.specs.Words.{glues}
use Rattle.parser.specs.Scanning.{glue_of, space_of, scanned_at, scan_from}

-- What characters weigh together.
unfoldable pub weights : (ℕ → ℕ) → List ℕ → ℕ
weights weigh [] = 0
weights weigh (c ∷ cs) = weigh c + weights weigh cs

pub weights-glues : (cs : List ℕ) → weights glue_of cs ≡ glues cs
unfolding weights glue_of glues pick
weights-glues [] = refl
weights-glues (c ∷ cs) = let h = weights-glues cs in by_test (glue c) (λ e. rw e (omega arith)) (λ e. rw e (omega arith))

pub weights-counted : (cs : List ℕ) → weights space_of cs ≡ counted cs
unfolding weights space_of counted pick
weights-counted [] = refl
weights-counted (c ∷ cs) = let h = weights-counted cs in by_test (eqb c 0x200B) (λ e. rw e (omega arith)) (λ e. rw e (omega arith))

same : {a b m n v w e f : ℕ} → a ≡ b → m ≡ n → v ≡ w → e ≡ f → scanned_at a m v e ≡ scanned_at b n w f
same p q r s = λ i. scanned_at (p i) (q i) (r i) (s i)

module _ (goes : ℕ → Bool) (weigh : ℕ → ℕ) where
  pub scan_is : (at n w : ℕ) (cs : List ℕ)
      → scan_from goes weigh at n w cs
      ≡ scanned_at (at + size (run goes cs)) (n + length (run goes cs)) (w + weights weigh (run goes cs)) (ender (after goes cs))
  unfolding scan_from run after size weights ender pick
  scan_is at n w [] = same (omega arith) (omega arith) (omega arith) refl
  scan_is at n w (c ∷ cs) =
      by_test (goes c)
      (λ e. rw e (scan_is (at + bytes c) (n + 1) (w + weigh c) cs ∙ same (omega arith) (omega arith) (omega arith) refl))
      (λ e. rw e (same (omega arith) (omega arith) (omega arith) refl))
