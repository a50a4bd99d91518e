-- The rest of the first affected line as the code finds it: its end in the part is a number that equals `rest_end`.
-- Assumes nothing.
use Prim.Native.Nat.{ℕ, ◌≤◌}
use Rattle.std.specs.Prelude.{Ok}
use native.Mathlib.Omega.{arith}
use mathlib.Core.Path.{◌≡◌, ap, ◌∙◌}
use mathlib.Core.Bool.{true, false}
use mathlib.Core.List.{List}
use lib.ListN.{length}
use Rattle.basis.specs.Choice.{pick}
use Rattle.utf8.specs.Decoding.{decode_all}
use Rattle.utf8.specs.Places.{boundary}
use Rattle.meaning.specs.Checks.{check_utf8}
use Rattle.meaning.specs.WellFormed.{no_rest}
use Rattle.meaning.specs.Edit.{chars_in, rest_fits}
use Rattle.meaning.specs.declared.line.Entry.{Entry}
use Rattle.laws.specs.LinesTake.{chars-within}
use Rattle.laws.specs.TokenLaws.{length-size}
use Rattle.steps.specs.Unrolled.{nothing_resumed}
use Rattle.steps.specs.declared.step.Resumed.{Resumed}
use Rattle.laws.specs.PartChars.{part-size}
use Rattle.edits.specs.RestFits.{rest_end, fits-ends}
use Rattle.again.specs.HeldRest.{resumed_of}

module _ (t : List ℕ) (e : Entry) where
  abbrev cs : List ℕ
  cs = decode_all t

  pub resumed-none : no_rest e ≡ true → (r : Resumed) → r ≡ nothing_resumed → r ≡ resumed_of e cs
  unfolding resumed_of pick
  resumed-none h r is = is ∙ rw h

  module _ (u : check_utf8 t ≡ Ok tt) (some : no_rest e ≡ false) (n : ℕ) (is : n ≡ rest_end e) where
    pub ends_there : rest_fits e cs ≡ true → boundary cs n ≡ true
    ends_there h = rw is (fits-ends e cs some h)

    pub few-chars : (m : ℕ) → m ≡ chars_in cs n → m ≤ length t
    few-chars m p = omega (arith, chars-within cs n, length-size cs, part-size t u)

    pub resumed-some : (m : ℕ) → m ≡ chars_in cs n
        → record { end = record { 0 = n }; chars = record { 0 = m }; count = e.rest.count } ≡ resumed_of e cs
    unfolding resumed_of pick
    resumed-some m p =
        let q = p ∙ ap (chars_in cs) is in
        rw some (λ i. record { end = record { 0 = is i }; chars = record { 0 = q i }; count = e.rest.count })
