-- The tests of a call, one after the other: what one refuses, and what is known where none does.
-- Assumes nothing.
use Rattle.std.specs.Prelude.{ℕ, ◌≡◌, refl, List, ◌∷◌, Err, Ok}
use Rattle.meaning.specs.Refusals.{Checked}
use Rattle.std.proofs.Common.{arith}
use Rattle.meaning.specs.Checks.{first_of}
use Rattle.meaning.specs.declared.refusals.Refusal.{Refusal}

module _ (c : Checked) (cs : List Checked) where
  pub stops : (r : Refusal) → c ≡ Err r → first_of (c ∷ cs) ≡ Err r
  unfolding first_of
  stops r e = rw e

  pub passes : c ≡ Ok tt → first_of (c ∷ cs) ≡ first_of cs
  unfolding first_of
  passes e = rw e

-- Where nothing is refused, the first test refuses nothing, and neither do the others.
pub both-good : (c : Checked) (cs : List Checked) → first_of (c ∷ cs) ≡ Ok tt → (c ≡ Ok tt) × (first_of cs ≡ Ok tt)
unfolding first_of
both-good (Ok tt) cs e = (refl, e)
both-good (Err r) cs e = absurd (let z : ◌≡◌ {A = ℕ} 0 1 = cc in omega arith)
