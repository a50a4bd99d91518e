-- A call with its own contract. Nothing of a contract is written down here again: it is read off the function's clauses, so that a
-- clause which is dropped there is missing here.
-- Assumes nothing.
use Rattle.std.specs.Prelude.{ℕ, ◌≡◌, List}
use Rattle.std.proofs.Common.{sym, ◌∙◌}
use contract.Lifetimes.{Lfts}
use borrow.Fn.Kinds.{ParamKind, ResultKind, In, Out, Dens, res_t, ended_of}
use denote.Triple.Clauses.{Lasts, at_exit}

-- A function's lifetimes, parameters and result, and its contract: what its `requires` ask of the arguments, and what its `ensures`
-- tell of the arguments, the result and the parameters at exit.
pub record Call : Type 3 where
  pub lifetimes : ℕ
  pub parameters : List (ParamKind lifetimes)
  pub result : ResultKind lifetimes
  pub Asked : In lifetimes parameters
  pub Learnt : Out lifetimes parameters result

abbrev pub call_of : (n : ℕ) (ps : List (ParamKind n)) (r : ResultKind n) → In n ps → Out n ps r → Call
call_of n ps r Asked Learnt = record { lifetimes = n; parameters = ps; result = r; Asked = Asked; Learnt = Learnt }

module _ (c : Call) (κs : Lfts c.lifetimes) where
  -- What is passed.
  abbrev pub Arguments : Type 0
  Arguments = Dens κs c.parameters

  -- What is returned.
  abbrev pub Result : Type 0
  Result = (res_t c.result κs).Denot

  -- What each parameter leaves behind: a `&mut` the value that lies there afterwards, any other nothing.
  abbrev pub Left : Arguments → Type 0
  Left a = Lasts (ended_of c.lifetimes c.parameters c.result) κs a

  -- A result, and what is left behind, meet the contract for these arguments.
  abbrev pub Meets : (a : Arguments) → Result → Left a → Type 0
  Meets a z ws = c.Learnt κs a z (at_exit (ended_of c.lifetimes c.parameters c.result) κs a ws)

-- The call may be passed anything.
abbrev pub AsksNothing : Call → Type 0
AsksNothing c = (κs : Lfts c.lifetimes) (a : Arguments c κs) → c.Asked κs a

-- Agreement: what the call answers and leaves behind follows from what it is passed alone. Two results that meet its contract for the
-- same arguments are equal, and so is all that is left behind: each number written, each buffer.
abbrev pub Agrees : Call → Type 0
Agrees c = (κs : Lfts c.lifetimes) (a : Arguments c κs) (z z' : Result c κs) (ws ws' : Left c κs a)
    → Meets c κs a z ws → Meets c κs a z' ws' → (z ≡ z') × (ws ≡ ws')

-- Two things that equal a third are equal.
pub agree : {A : Type 0} → {x y z : A} → x ≡ z → y ≡ z → x ≡ y
agree p q = p ∙ sym q
