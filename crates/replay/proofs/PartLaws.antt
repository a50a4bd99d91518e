-- A stretch of numbers, cut where a count and what it counts end.
-- Assumes nothing.
use Prim.Native.Nat.{ℕ, ◌+◌, ◌-◌, ◌*◌}
use mathlib.Core.Path.{◌≡◌, sym, ap, ◌∙◌}
use mathlib.Core.List.{List, ◌∷◌, ◌++◌}
use native.Mathlib.Numerals.{add-one}
use native.Mathlib.Omega.{arith}
use lib.ListN.{length, get_or, drop, take-append-drop, length-drop}
use lib.Seq.{drop-cons, drop-drop, length-take-le}
use Rattle.replay.specs.Shape.{After, part}

module _ {ns : List ℕ} {at each most next : ℕ} (a : After ns at each most next) where
  pub part_length : length (part ns at next) ≡ each * get_or ns at 0
  part_length =
      length-take-le (next - (at + 1)) (drop (at + 1) ns) (omega (arith, length-drop (at + 1) ns, a.within)) ∙ omega (arith, a.next-is)

  -- The numbers from the count on: the count, what it counts, and what follows.
  pub part_cut : drop at ns ≡ (get_or ns at 0 ∷ part ns at next) ++ drop next ns
  part_cut =
      let rest = drop (at + 1) ns in
      let after : (at + 1) + (next - (at + 1)) ≡ next = omega (arith, a.next-is) in
      drop-cons ns at 0 (omega (arith, a.within, a.next-is))
      ∙ ap (λ (k : ℕ). get_or ns at 0 ∷ drop k ns) (sym (add-one at))
      ∙ ap (λ (l : List ℕ). get_or ns at 0 ∷ l)
      (sym (take-append-drop (next - (at + 1)) rest)
      ∙ ap (λ (l : List ℕ). part ns at next ++ l) (drop-drop (next - (at + 1)) (at + 1) ns ∙ ap (λ (k : ℕ). drop k ns) after))
