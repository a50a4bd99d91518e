-- Tests that are made one after the other (`first_of`): one refuses, or what follows decides.
-- Assumes nothing.
use Rattle.std.specs.Prelude.{◌≡◌, refl, List, [], ◌∷◌, ◌++◌, Err, Ok}
use Rattle.meaning.specs.Refusals.{Checked}
use Rattle.meaning.specs.Checks.{first_of}
use Rattle.meaning.specs.declared.refusals.Refusal.{Refusal}

-- A test by itself.
pub first_alone : (c : Checked) → first_of (c ∷ []) ≡ c
unfolding first_of
first_alone (Ok tt) = refl
first_alone (Err r) = refl

-- Where none refuses, the first does not, and none of the others.
pub none_refuses : (c : Checked) (more : List Checked) → first_of (c ∷ more) ≡ Ok tt → (c ≡ Ok tt) × (first_of more ≡ Ok tt)
unfolding first_of
none_refuses (Ok tt) more e = (refl, e)
none_refuses (Err r) more e = (cc, cc)

-- Three tests, none of which refuses.
pub three-good : (a b c : Checked) → first_of (a ∷ b ∷ c ∷ []) ≡ Ok tt → (a ≡ Ok tt) × (b ≡ Ok tt) × (c ≡ Ok tt)
three-good a b c e =
    let p = none_refuses a (b ∷ c ∷ []) e in
    let q = none_refuses b (c ∷ []) p.1 in
    (p.0, q.0, (none_refuses c [] q.1).0)

-- What one of the first two refuses is refused, whatever follows.
pub first-refused : (a b : Checked) (more : List Checked) (r : Refusal) → first_of (a ∷ b ∷ []) ≡ Err r → first_of (a ∷ b ∷ more) ≡ Err r
unfolding first_of
first-refused (Ok _) (Ok _) more r e = cc
first-refused (Ok tt) (Err q) more r e = e
first-refused (Err q) b more r e = e

-- Where neither does, what follows decides.
pub first_good : (a b : Checked) (more : List Checked) → first_of (a ∷ b ∷ []) ≡ Ok tt → first_of (a ∷ b ∷ more) ≡ first_of more
unfolding first_of
first_good (Ok _) (Ok _) more e = refl
first_good (Ok tt) (Err q) more e = cc
first_good (Err q) b more e = cc

-- The same of any tests before others.
pub before-refused : (xs more : List Checked) (r : Refusal) → first_of xs ≡ Err r → first_of (xs ++ more) ≡ Err r
unfolding first_of
before-refused [] more r e = cc
before-refused ((Ok tt) ∷ xs) more r e = before-refused xs more r e
before-refused (Err q ∷ xs) more r e = e

pub before-good : (xs more : List Checked) → first_of xs ≡ Ok tt → first_of (xs ++ more) ≡ first_of more
unfolding first_of
before-good [] more e = refl
before-good ((Ok tt) ∷ xs) more e = before-good xs more e
before-good (Err q ∷ xs) more e = cc
