-- What a line's entry says of the rest held before it, by whether something is held (rule 9, rule 12).
-- Assumes nothing.
use Rattle.std.specs.Prelude.{ℕ, ◌+◌, ◌-◌, ◌≤◌, ◌≡◌, refl, true, List, ◌++◌, length, take}
use Rattle.std.proofs.Common.{arith, length-append, le-leb, eq-eqb, ne_eqb}
use Rattle.basis.specs.Choice.{pick}
use Rattle.basis.specs.Order.{by_eq}
use Rattle.utf8.specs.Encoding.{size}
use Rattle.utf8.specs.Boundaries.{boundary-is}
use Rattle.meaning.specs.LineIter.{Held}
use Rattle.meaning.specs.Line.{Line, rest_of, entry_at}
use Rattle.meaning.specs.WellFormed.{no_rest}
use Rattle.meaning.specs.Edit.{rest_fits, held_of}
use Rattle.laws.specs.LineLocal.{take_local}
use Rattle.laws.specs.Suffixes.{chars_in-take, take-size}

module _ (start : ℕ) (h : Held) (cs : List ℕ) where
  pub rest-none : h.chars ≡ 0 → rest_of start h cs ≡ record { end = record { 0 = 0 }; count = record { 0 = 0 } }
  unfolding rest_of pick
  rest-none e = rw (eq-eqb _ _ e)

  pub rest_some : (h.chars ≡ 0 → ⊥)
      → rest_of start h cs ≡ record { end = record { 0 = start + size (take h.chars cs) }; count = record { 0 = h.count } }
  unfolding rest_of pick
  rest_some n = rw (ne_eqb _ _ n)

-- The rest that an entry gives, where the text after its line's start goes on otherwise behind what is held.
pub held_of_lem : (start before : ℕ) (h : Held) (p x y : List ℕ) (l : Line) → h.chars ≤ length p → h.count ≤ h.chars
    → held_of (entry_at start before h (p ++ x) l) (p ++ y) ≡ h
unfolding held_of no_rest entry_at pick
held_of_lem start before h p x y l k c =
    let n = h.chars in
    by_eq n 0
    (λ e.
    let a : 0 ≡ h.chars = omega arith in
    let b : 0 ≡ h.count = omega arith in
    rw (rest-none start h (p ++ x) e) (λ i. record { chars = a i; count = b i }))
    (λ d.
    let a : n ≤ length (p ++ x) = rw length-append (omega arith) in
    let b : n ≤ length (p ++ y) = rw length-append (omega arith) in
    let z = take-size n (p ++ x) a in
    let e : start + size (take n (p ++ x)) - start ≡ size (take n (p ++ y)) = rw (take_local n p x y k) (omega arith) in
    rw (
      rest_some start h (p ++ x) d,
      ne_eqb (start + size (take n (p ++ x))) 0 (λ f. omega arith),
      e,
      chars_in-take n (p ++ y) b,
    ))

-- It fits there too: it ends where a character does, and counts no more than the characters up to there.
pub rest-fits : (start before : ℕ) (h : Held) (p x y : List ℕ) (l : Line) → h.chars ≤ length p → h.count ≤ h.chars
    → rest_fits (entry_at start before h (p ++ x) l) (p ++ y) ≡ true
unfolding rest_fits no_rest entry_at
rest-fits start before h p x y l k c =
    let n = h.chars in
    by_eq n 0 (λ e. rw (rest-none start h (p ++ x) e))
    (λ d.
    let a : n ≤ length (p ++ x) = rw length-append (omega arith) in
    let b : n ≤ length (p ++ y) = rw length-append (omega arith) in
    let z = take-size n (p ++ x) a in
    let e : start + size (take n (p ++ x)) - start ≡ size (take n (p ++ y)) = rw (take_local n p x y k) (omega arith) in
    rw (
      rest_some start h (p ++ x) d,
      ne_eqb (start + size (take n (p ++ x))) 0 (λ f. omega arith),
      e,
      (boundary-is (p ++ y) (size (take n (p ++ y)))).1 (record { chars = n; within = b; is = refl }),
      chars_in-take n (p ++ y) b,
      le-leb h.count n c,
    ))
