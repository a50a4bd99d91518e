-- A choice by a test, kept shut so that goals show it by its name, and what holds of it.
-- Assumes nothing.
use Rattle.std.specs.Prelude.{◌≡◌, refl, Bool, true, false, ◌&&◌, ◌||◌}
use Rattle.std.proofs.Common.{sym}
use Rattle.std.proofs.lemmas.Bool.{false≢true}

-- The first of two where the test holds, else the second.
-- Both are computed: a recursive call is bound by a `let` first, or stands in a function by clauses.
unfoldable pub pick {ℓ} : {X : Type ℓ} → Bool → X → X → X
pick true a b = a
pick false a b = b

pub pick_true {ℓ} : {X : Type ℓ} (t : Bool) (x y : X) → t ≡ true → pick t x y ≡ x
unfolding pick
pick_true true x y e = refl
pick_true false x y e = absurd (false≢true e)

pub pick-false {ℓ} : {X : Type ℓ} (t : Bool) (x y : X) → t ≡ false → pick t x y ≡ y
unfolding pick
pick-false false x y e = refl
pick-false true x y e = absurd (false≢true (sym e))

-- What holds of each of the two, where the test goes that way, holds of the choice.
pub pick_cases {ℓ κ} : {X : Type ℓ} (P : X → Type κ) (t : Bool) {x y : X} → (t ≡ true → P x) → (t ≡ false → P y) → P (pick t x y)
unfolding pick
pick_cases P true f g = f refl
pick_cases P false f g = g refl

-- A choice between one and the same.
pub pick_same {ℓ} : {X : Type ℓ} (t : Bool) (x : X) → pick t x x ≡ x
unfolding pick
pick_same true x = refl
pick_same false x = refl

-- A function of a choice is the choice of its values.
pub pick_under {ℓ κ} : {X : Type ℓ} {Y : Type κ} (f : X → Y) (t : Bool) (x y : X) → f (pick t x y) ≡ pick t (f x) (f y)
unfolding pick
pick_under f true x y = refl
pick_under f false x y = refl

-- A test goes one way or the other, and each case is handed the fact.
pub by_test {ℓ} : {P : Type ℓ} (t : Bool) → (t ≡ true → P) → (t ≡ false → P) → P
by_test true f g = f refl
by_test false f g = g refl

-- Both of two tests.
pub and_true : (p q : Bool) → p && q ≡ true → (p ≡ true) × (q ≡ true)
and_true true q e = (refl, e)
and_true false q e = absurd (false≢true e)

pub and_both : (p q : Bool) → p ≡ true → q ≡ true → p && q ≡ true
and_both true q e f = f
and_both false q e f = e

-- One of two tests holds, and each case is handed the fact.
pub by-either {ℓ} : {P : Type ℓ} (p q : Bool) → p || q ≡ true → (p ≡ true → P) → (q ≡ true → P) → P
by-either true q e f g = f refl
by-either false q e f g = g e

pub neither : (p q : Bool) → p || q ≡ false → (p ≡ false) × (q ≡ false)
neither true q e = absurd (false≢true (sym e))
neither false q e = (refl, e)

pub either_first : (p q : Bool) → p ≡ true → p || q ≡ true
either_first true q e = refl
either_first false q e = absurd (false≢true e)

pub either_second : (p q : Bool) → q ≡ true → p || q ≡ true
either_second true q e = refl
either_second false q e = e
