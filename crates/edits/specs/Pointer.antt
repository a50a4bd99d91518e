-- Old lines that laying again has passed: none of them is met any more, so that a pointer into the old lines is enough.
-- Assumes nothing.
use Prim.Native.Nat.{ℕ, zero, suc, ◌≤◌, ◌<◌}
use native.Mathlib.Omega.{arith}
use Rattle.std.specs.Prelude.{◌≡◌, Bool, true, false, ◌||◌, leb, ltb, length, drop}
use Rattle.std.proofs.Math.Path.{refl}
use Rattle.std.proofs.Common.{◌∙◌}
use mathlib.Core.List.{List, [], ◌∷◌}
use borrow.Author.Tests.{lt-leb, ne_eqb, ltb-true, ltb-false}
use Rattle.basis.specs.Choice.{pick, pick_true, pick-false, pick_cases, by_test, by-either, neither}
use Rattle.meaning.specs.Edit.{moved, meets, kept_from}
use Rattle.meaning.specs.declared.edit.Edit.{Edit}
use Rattle.meaning.specs.declared.line.Rest.{Rest}
use Rattle.meaning.specs.declared.line.Entry.{Entry}

-- An old line at x starts before b, or has come to stand before a start: no line from there on meets it.
unfoldable pub stands_before : Edit → (start x : ℕ) → Bool
stands_before ed start x = ltb x ed.to.0 || ltb (moved ed x) start

-- How many such lines there are at the front.
unfoldable pub passing : Edit → (start : ℕ) → List Entry → ℕ
passing ed start [] = 0
passing ed start (e ∷ es) =
    let more = suc (passing ed start es) in
    pick (stands_before ed start e.start.0) more 0

-- Is the first of some old lines met.
unfoldable pub meets_first : Edit → (start : ℕ) → Rest → List Entry → Bool
meets_first ed start rest [] = false
meets_first ed start rest (e ∷ es) = meets ed start rest e

-- Starts rise strictly, above a number.
abbrev pub Above : ℕ → List Entry → Type 0
Above x [] = Unit {0}
Above x (e ∷ es) = (x < e.start.0) × Above e.start.0 es

abbrev pub Rising : List Entry → Type 0
Rising [] = Unit {0}
Rising (e ∷ es) = Above e.start.0 es

above-rising : (x : ℕ) (es : List Entry) → Above x es → Rising es
above-rising x [] h = tt
above-rising x (e ∷ es) h = h.1

pub rising-drop : (n : ℕ) (es : List Entry) → Rising es → Rising (drop n es)
rising-drop zero es h = h
rising-drop (suc n) [] h = tt
rising-drop (suc n) (e ∷ es) h = rising-drop n es (above-rising e.start.0 es h)

-- The first of some old lines does not stand before a start.
abbrev pub Past : Edit → (start : ℕ) → List Entry → Type 0
Past ed start [] = Unit {0}
Past ed start (e ∷ es) = stands_before ed start e.start.0 ≡ false

-- ---- passing lines

module _ (ed : Edit) (start : ℕ) where
  -- A line that stands before is not met, here or later.
  not-met : (later : ℕ) (rest : Rest) (e : Entry) → start ≤ later → stands_before ed start e.start.0 ≡ true → meets ed later rest e ≡ false
  unfolding stands_before meets
  not-met later rest e k h =
      let x = e.start.0 in
      by-either (ltb x ed.to.0) (ltb (moved ed x) start) h (λ a. simp (lt-leb ed.to.0 x (ltb-true x ed.to.0 a)))
      (λ b.
      let d = ltb-true (moved ed x) start b in
      by_test (leb ed.to.0 x) (λ t. simp (t, ne_eqb (moved ed x) later (λ q. omega arith))) (λ t. simp t))

  -- The lines passed are not those that are kept.
  pub kept-after : (later : ℕ) (rest : Rest) → start ≤ later → (es : List Entry)
      → kept_from ed later rest es ≡ kept_from ed later rest (drop (passing ed start es) es)
  unfolding kept_from passing pick
  kept-after later rest k [] = refl
  kept-after later rest k (e ∷ es) =
      by_test (stands_before ed start e.start.0) (λ b. rw (b, not-met later rest e k b) (kept-after later rest k es)) (λ b. rw b)

  pub passing-few : (es : List Entry) → passing ed start es ≤ length es
  unfolding passing
  passing-few [] = omega arith
  passing-few (e ∷ es) =
      pick_cases (λ n. n ≤ suc (length es)) (stands_before ed start e.start.0) (λ _. omega (arith, passing-few es)) (λ _. omega arith)

  pub past-passing : (es : List Entry) → Past ed start (drop (passing ed start es) es)
  unfolding passing pick
  past-passing [] = tt
  past-passing (e ∷ es) = by_test (stands_before ed start e.start.0) (λ b. rw b (past-passing es)) (λ b. rw b b)

  -- ---- the line that the pointer stands at

  past-says : (x : ℕ) → stands_before ed start x ≡ false → (ed.to.0 ≤ x) × (start ≤ moved ed x)
  unfolding stands_before
  past-says x h =
      let b = neither (ltb x ed.to.0) (ltb (moved ed x) start) h in
      (ltb-false x ed.to.0 b.0, ltb-false (moved ed x) start b.1)

  -- Moved lines rise as well, from b on.
  moved_later : (x y : ℕ) → ed.to.0 ≤ x → x < y → moved ed x < moved ed y
  unfolding moved
  moved_later x y h k = omega arith

  not-here : (rest : Rest) (e : Entry) → start < moved ed e.start.0 → meets ed start rest e ≡ false
  unfolding meets
  not-here rest e h =
      let x = e.start.0 in
      by_test (leb ed.to.0 x) (λ t. simp (t, ne_eqb (moved ed x) start (λ q. omega arith))) (λ t. simp t)

  none_above : (rest : Rest) (x : ℕ) (es : List Entry) → Above x es → ed.to.0 ≤ x → start ≤ moved ed x → kept_from ed start rest es ≡ []
  unfolding kept_from
  none_above rest x [] a b c = refl
  none_above rest x (e ∷ es) a b c =
      let m = moved_later x e.start.0 b a.0 in
      pick-false _ _ _ (not-here rest e (omega arith)) ∙ none_above rest e.start.0 es a.1 (omega arith) (omega arith)

  -- It alone can be met, and the lines from it on are then kept.
  pub met-first : (rest : Rest) (es : List Entry) → meets_first ed start rest es ≡ true → kept_from ed start rest es ≡ es
  unfolding meets_first kept_from
  met-first rest [] h = refl
  met-first rest (e ∷ es) h = pick_true _ _ _ h

  pub none-met : (rest : Rest) (es : List Entry) → Rising es → Past ed start es → meets_first ed start rest es ≡ false
      → kept_from ed start rest es ≡ []
  unfolding meets_first kept_from
  none-met rest [] r p h = refl
  none-met rest (e ∷ es) r p h =
      let b = past-says e.start.0 p in
      pick-false _ _ _ h ∙ none_above rest e.start.0 es r b.0 b.1
