-- The first line feed from a place on, and what was found of a line.
-- Assumes nothing.
use Prim.Native.Nat.{ℕ, suc, ◌+◌, ◌≤◌, ◌<◌}
use mathlib.Core.Path.{◌≡◌, sym, subst}
use mathlib.Core.List.{List, [], ◌∷◌}
use native.Mathlib.Numerals.{add-one}
use native.Mathlib.Omega.{arith}
use borrow.Author.Tests.{eq-eqb, ne_eqb}
use lib.Dec.{eqb}
use lib.ListN.{length, get_or, take, drop, drop_of_length-le, length-drop}
use lib.Seq.{drop-cons, get_or-take, length-take-le}
use Rattle.basis.specs.Choice.{pick, pick_cases}
use Rattle.std.specs.Prelude.{Option, None, Some, MatchOption}
use Rattle.replay.specs.Lines.{line_end}

module _ (s : List ℕ) (end : ℕ) (long : end ≤ length s) where
  part_length : length (take end s) ≡ end
  part_length = length-take-le end s long

  module _ (i : ℕ) (h : i < end) where
    here : i < length (take end s)
    here = omega (arith, part_length)

    pub feed_here : get_or s i 0 ≡ 10 → line_end i (drop i (take end s)) ≡ Some i
    unfolding line_end pick
    feed_here e = rw (drop-cons (take end s) i 0 here, get_or-take end s i 0 h, eq-eqb _ _ e)

    pub feed_later : (get_or s i 0 ≡ 10 → ⊥) → line_end i (drop i (take end s)) ≡ line_end (i + 1) (drop (i + 1) (take end s))
    unfolding line_end pick
    feed_later n = rw (drop-cons (take end s) i 0 here, get_or-take end s i 0 h, add-one i, ne_eqb _ _ n)

  pub no_feed : (i : ℕ) → end ≤ i → line_end i (drop i (take end s)) ≡ None
  unfolding line_end
  no_feed i h = rw (drop_of_length-le (take end s) (let e : length (take end s) ≤ i = omega (arith, part_length) in e))

-- A line feed that is found stands among the bytes.
abbrev pub InBytes : (i n : ℕ) → Option ℕ → Type 0
InBytes i n o = MatchOption o (Unit {0}) (λ k. (i ≤ k) × (k < i + n))

later : (i n : ℕ) (o : Option ℕ) → InBytes (i + 1) n o → InBytes i (suc n) o
later i n (Some k) w = (omega (arith, w), omega (arith, w))
later i n None w = tt

pub end_within : (i : ℕ) (s : List ℕ) → InBytes i (length s) (line_end i s)
unfolding line_end
end_within i [] = tt
end_within i (b ∷ s) =
    pick_cases (InBytes i (length (b ∷ s))) (eqb b 10) (λ e. (omega arith, omega arith)) (λ e. later i (length s) (line_end (i + 1) s) (end_within (i + 1) s))

-- It stands in the stretch that was searched.
pub found_within : (s : List ℕ) (from end k : ℕ) → end ≤ length s → Some k ≡ line_end from (drop from (take end s)) → (from ≤ k) × (k < end)
found_within s from end k long e =
    let xs = drop from (take end s) in
    let w : (from ≤ k) × (k < from + length xs) = subst (InBytes from (length xs)) (sym e) (end_within from xs) in
    (w.0, omega (arith, w, length-drop from (take end s), length-take-le end s long))
