-- Case analysis on two numbers: each case is handed its fact.
-- Assumes nothing.
use Rattle.std.specs.Prelude.{ℕ, ◌≤◌, ◌<◌, Bool, true, false, ◌&&◌, ◌≡◌, leb, ltb, eqb}
use Rattle.std.proofs.Common.{lt-ltb, le-ltb, le-leb, eq-eqb, ne_eqb, leb-true, leb-false, ltb-true, ltb-false, eqb-true}
use Rattle.std.proofs.lemmas.Bool.{lt-leb, eqb-false}
use Rattle.basis.specs.Choice.{by_test, and_true, and_both}

pub by_le {ℓ} : {P : Type ℓ} (a b : ℕ) → (a ≤ b → P) → (b < a → P) → P
by_le a b f g = by_test (leb a b) (λ e. f (leb-true a b e)) (λ e. g (leb-false a b e))

pub by_lt {ℓ} : {P : Type ℓ} (a b : ℕ) → (a < b → P) → (b ≤ a → P) → P
by_lt a b f g = by_test (ltb a b) (λ e. f (ltb-true a b e)) (λ e. g (ltb-false a b e))

pub by_eq {ℓ} : {P : Type ℓ} (a b : ℕ) → (a ≡ b → P) → ((a ≡ b → ⊥) → P) → P
by_eq a b f g = by_test (eqb a b) (λ e. f (eqb-true a b e)) (λ e. g (eqb-false a b e))

-- Is a number between two others, both included.
abbrev pub within : ℕ → ℕ → ℕ → Bool
within lo hi x = leb lo x && leb x hi

pub within-true : (lo hi x : ℕ) → within lo hi x ≡ true → (lo ≤ x) × (x ≤ hi)
within-true lo hi x e = let p = and_true (leb lo x) (leb x hi) e in (leb-true lo x p.0, leb-true x hi p.1)

pub within-is : (lo hi x : ℕ) → lo ≤ x → x ≤ hi → within lo hi x ≡ true
within-is lo hi x p q = and_both (leb lo x) (leb x hi) (le-leb lo x p) (le-leb x hi q)

pub within-not : (lo hi x : ℕ) → (lo ≤ x → x ≤ hi → ⊥) → within lo hi x ≡ false
within-not lo hi x n = by_test (within lo hi x) (λ e. let p = within-true lo hi x e in absurd (n p.0 p.1)) (λ e. e)

-- For `search tests`: a result whose definition picks its case by tests that the branches decided.
pub ruleset tests = (lt-ltb, le-ltb, le-leb, lt-leb, eq-eqb, ne_eqb)
