-- The longest run of characters that pass a test, and what stands after it (rule 2).
-- Assumes nothing.
use Rattle.std.specs.Prelude.{ℕ, ◌+◌, ◌≤◌, ◌<◌, ◌≡◌, Bool, true, false, ◌⊎◌, length}
use Rattle.std.proofs.Math.Path.{refl, ap}
use Rattle.std.proofs.Common.{◌∙◌, inl, inr, ⊎_elim}
use mathlib.Core.List.{List, [], ◌∷◌, ◌++◌}
use native.Mathlib.Omega.{arith}
use Rattle.basis.specs.Choice.{pick, pick_true, pick-false, by_test}
use Rattle.utf8.specs.Encoding.{size}
use Rattle.utf8.specs.Sizes.{bytes_range}
use Rattle.meaning.specs.Tokens.{run, after, ender}

-- Each character passes the test.
abbrev pub Pass : (ℕ → Bool) → List ℕ → Type 0
Pass f [] = Unit {0}
Pass f (c ∷ cs) = (f c ≡ true) × Pass f cs

-- So do those of the second of two parts.
pub pass-second : (f : ℕ → Bool) (xs ys : List ℕ) → Pass f (xs ++ ys) → Pass f ys
pass-second f [] ys h = h
pass-second f (x ∷ xs) ys h = pass-second f xs ys h.1

-- There is no character, or the first does not pass the test.
abbrev pub Stops : (ℕ → Bool) → List ℕ → Type 0
Stops f [] = Unit {0}
Stops f (c ∷ cs) = f c ≡ false

module _ (f : ℕ → Bool) where
  -- The run goes on with a character that passes.
  pub run_more : (c : ℕ) (cs : List ℕ) → f c ≡ true → run f (c ∷ cs) ≡ c ∷ run f cs
  unfolding run
  run_more c cs e = pick_true (f c) _ _ e

  pub after_more : (c : ℕ) (cs : List ℕ) → f c ≡ true → after f (c ∷ cs) ≡ after f cs
  unfolding after
  after_more c cs e = pick_true (f c) _ _ e

  -- It is over before one that does not.
  pub run_none : (c : ℕ) (cs : List ℕ) → f c ≡ false → run f (c ∷ cs) ≡ []
  unfolding run
  run_none c cs e = pick-false (f c) _ _ e

  pub after_none : (c : ℕ) (cs : List ℕ) → f c ≡ false → after f (c ∷ cs) ≡ c ∷ cs
  unfolding after
  after_none c cs e = pick-false (f c) _ _ e

  pub run-after : (cs : List ℕ) → run f cs ++ after f cs ≡ cs
  unfolding run after pick
  run-after [] = refl
  run-after (c ∷ cs) = by_test (f c) (λ e. rw e (ap (λ (l : List ℕ). c ∷ l) (run-after cs))) (λ e. rw e)

  pub run-pass : (cs : List ℕ) → Pass f (run f cs)
  unfolding run pick
  run-pass [] = tt
  run-pass (c ∷ cs) = by_test (f c) (λ e. rw e (e, run-pass cs)) (λ e. rw e tt)

  -- The run is longest: what stands after it does not go on with it.
  pub after-stops : (cs : List ℕ) → Stops f (after f cs)
  unfolding after pick
  after-stops [] = tt
  after-stops (c ∷ cs) = by_test (f c) (λ e. rw e (after-stops cs)) (λ e. rw e e)

  pub after-length : (cs : List ℕ) → length (after f cs) ≤ length cs
  unfolding after pick
  after-length [] = omega arith
  after-length (c ∷ cs) = by_test (f c) (λ e. rw e (omega (arith, after-length cs))) (λ e. rw e (omega arith))

  -- Nothing else is a run: characters that pass, before what does not go on with them.
  pub run_only : (ws rest : List ℕ) → Pass f ws → Stops f rest → (run f (ws ++ rest) ≡ ws) × (after f (ws ++ rest) ≡ rest)
  unfolding run after
  run_only [] [] p s = (refl, refl)
  run_only [] (c ∷ rest) p s = (run_none c rest s, after_none c rest s)
  run_only (w ∷ ws) rest p s =
      let r = run_only ws rest p.1 s in
      (run_more w (ws ++ rest) p.0 ∙ ap (λ (l : List ℕ). w ∷ l) r.0, after_more w (ws ++ rest) p.0 ∙ r.1)

-- What ends a run takes a byte at least.
pub ender_least : (cs : List ℕ) → 1 ≤ ender cs
unfolding ender
ender_least [] = omega arith
ender_least (c ∷ cs) = (bytes_range c).0

-- The run ends within a text, whatever follows the text.
abbrev pub Settled : (ℕ → Bool) → List ℕ → Type 0
Settled f p =
    (y : List ℕ)
    → (run f (p ++ y) ≡ run f p) × (after f (p ++ y) ≡ after f p ++ y) × (ender (after f (p ++ y)) ≡ ender (after f p))

settled_more : (f : ℕ → Bool) (c : ℕ) (p : List ℕ) → f c ≡ true → Settled f p → Settled f (c ∷ p)
settled_more f c p e s y =
    simp (run_more f c (p ++ y) e, after_more f c (p ++ y) e, run_more f c p e, after_more f c p e)
    (ap (λ (l : List ℕ). c ∷ l) (s y).0, (s y).1, (s y).2)

settled_none : (f : ℕ → Bool) (c : ℕ) (p : List ℕ) → f c ≡ false → Settled f (c ∷ p)
unfolding ender
settled_none f c p e y =
    simp (run_none f c (p ++ y) e, after_none f c (p ++ y) e, run_none f c p e, after_none f c p e) (refl, refl, refl)

longer : (f : ℕ → Bool) (c : ℕ) (p x : List ℕ) → f c ≡ true
    → size p < size (run f (p ++ x)) + ender (after f (p ++ x))
    → size (c ∷ p) < size (run f (c ∷ (p ++ x))) + ender (after f (c ∷ (p ++ x)))
unfolding size
longer f c p x e h = rw (run_more f c (p ++ x) e, after_more f c (p ++ x) e) (omega arith)

-- A run with what ends it takes more bytes than the text before x has, or it ends within that text.
pub run_local : (f : ℕ → Bool) (p x : List ℕ) → (size p < size (run f (p ++ x)) + ender (after f (p ++ x))) ⊎ Settled f p
unfolding size
run_local f [] x = inl (omega (arith, ender_least (after f x)))
run_local f (c ∷ p) x =
    by_test (f c) (λ e. ⊎_elim (λ h. inl (longer f c p x e h)) (λ s. inr (settled_more f c p e s)) (run_local f p x))
    (λ e. inr (settled_none f c p e))
