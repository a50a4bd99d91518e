-- The parts of a text between its ends of lines, LF and CR: how long the first is, and how long the longest (rule 2).
-- Assumes nothing.
use Rattle.std.specs.Prelude.{ℕ, zero, suc, ◌+◌, ◌≤◌, max, ◌≡◌, refl, Bool, true, false, not, List, [], ◌∷◌, ◌++◌, eqb, length, take, drop}
use Rattle.std.proofs.Common.{sym, subst, ◌∙◌, arith, ne_eqb}
use Rattle.std.proofs.lemmas.Bool.{false≢true, not-true}
use Rattle.basis.specs.Choice.{pick, pick_true, pick-false, by_test}
use Rattle.laws.specs.Runs.{Pass}

-- ---- ends of lines

-- What passes a test is another than what does not.
pub other_than : (f : ℕ → Bool) (c d : ℕ) → f c ≡ true → f d ≡ false → c ≡ d → ⊥
other_than f c d h e is = false≢true (sym e ∙ subst (λ (x : ℕ). f x ≡ true) is h)

-- LF or CR: as a character, and as a byte.
unfoldable pub breaks : ℕ → Bool
breaks c = pick (eqb c 0x000A) true (eqb c 0x000D)

-- A test that neither passes tells of none.
pub others_break : (f : ℕ → Bool) → f 0x000A ≡ false → f 0x000D ≡ false → (c : ℕ) → f c ≡ true → breaks c ≡ false
unfolding breaks pick
others_break f a b c h = rw (ne_eqb c 0x000A (λ e. other_than f c 0x000A h a e), ne_eqb c 0x000D (λ e. other_than f c 0x000D h b e)) refl

-- A character within a part.
abbrev pub in_part : ℕ → Bool
in_part c = not (breaks c)

-- ---- how long the parts are

unfoldable pub first_part : List ℕ → ℕ
first_part [] = 0
first_part (c ∷ cs) =
    let more = suc (first_part cs) in
    pick (breaks c) 0 more

-- The longest is the first of what is left of the text somewhere.
unfoldable pub longest_part : List ℕ → ℕ
longest_part [] = 0
longest_part (c ∷ cs) = max (first_part (c ∷ cs)) (longest_part cs)

pub part-over : (c : ℕ) (cs : List ℕ) → breaks c ≡ true → first_part (c ∷ cs) ≡ 0
unfolding first_part
part-over c cs e = pick_true (breaks c) _ _ e

pub part-on : (c : ℕ) (cs : List ℕ) → breaks c ≡ false → first_part (c ∷ cs) ≡ suc (first_part cs)
unfolding first_part
part-on c cs e = pick-false (breaks c) _ _ e

pub first-longest : (cs : List ℕ) → first_part cs ≤ longest_part cs
unfolding first_part longest_part
first-longest [] = omega arith
first-longest (c ∷ cs) = omega arith

pub first-within : (cs : List ℕ) → first_part cs ≤ length cs
unfolding first_part
first-within [] = omega arith
first-within (c ∷ cs) =
    by_test (breaks c) (λ e. omega (arith, part-over c cs e)) (λ e. omega (arith, part-on c cs e, first-within cs))

pub longest-within : (cs : List ℕ) → longest_part cs ≤ length cs
unfolding longest_part
longest-within [] = omega arith
longest-within (c ∷ cs) = omega (arith, first-within (c ∷ cs), longest-within cs)

-- What is left of a text has no longer one.
pub longest-rest : (k : ℕ) (cs : List ℕ) → longest_part (drop k cs) ≤ longest_part cs
unfolding longest_part
longest-rest zero cs = omega arith
longest-rest (suc k) [] = omega arith
longest-rest (suc k) (c ∷ cs) = omega (arith, longest-rest k cs)

-- ---- a part of a part

-- Characters with no end of a line among them are of the first part.
pub part-joined : (xs ys : List ℕ) → Pass in_part xs → first_part (xs ++ ys) ≡ length xs + first_part ys
part-joined [] ys p = omega arith
part-joined (x ∷ xs) ys p = omega (arith, part-on x (xs ++ ys) (not-true (breaks x) p.0), part-joined xs ys p.1)

-- Behind so many of its characters stands what is left of it.
pub part-rest : (k : ℕ) (cs : List ℕ) → k ≤ first_part cs → first_part cs ≡ k + first_part (drop k cs)
unfolding first_part
part-rest zero cs h = omega arith
part-rest (suc k) [] h = absurd (omega arith)
part-rest (suc k) (c ∷ cs) h =
    by_test (breaks c) (λ e. absurd (omega (arith, part-over c cs e)))
    (λ e. let on = part-on c cs e in omega (arith, on, part-rest k cs (omega (arith, on))))

-- And among those is no end of a line.
pub first_passes : (k : ℕ) (cs : List ℕ) → k ≤ first_part cs → Pass in_part (take k cs)
unfolding first_part
first_passes zero cs h = tt
first_passes (suc k) [] h = tt
first_passes (suc k) (c ∷ cs) h =
    by_test (breaks c) (λ e. absurd (omega (arith, part-over c cs e)))
    (λ e. (rw e, first_passes k cs (omega (arith, part-on c cs e))))
