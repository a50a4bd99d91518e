-- What a `?` hands on: the error that it met; and what an option holds. `asked` is cited where a call that was refused refuses its caller too.
-- Assumes nothing.
use Rattle.std.specs.Prelude.{◌≡◌, true, Option, Some, None, is_some, IfSome, Result, Ok, Err}
use Rattle.std.specs.Result.{IsErrAnd}
use Rattle.std.proofs.Math.Path.{ap}
use mathlib.Core.Bool.{false≢true}

pub asked : {T E : Type 0} → (r : Result T E) {e : E} → IsErrAnd r (λ d. d ≡ e) → r ≡ Err e
asked (Ok x) h = absurd h
asked (Err d) h = ap Err h

-- An option that holds something holds what is said of it.
pub some_one : {A : Type 0} → {P : A → Type 0} → (r : Option A) → is_some r ≡ true → IfSome r P → (x : A) × P x
some_one None e h = absurd (false≢true e)
some_one (Some x) e h = (x, h)
