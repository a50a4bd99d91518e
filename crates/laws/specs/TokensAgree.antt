-- The tokens of a text's first bytes are those of every text that begins with them, as far as these bytes decide (rule 2, rule 12).
-- Assumes nothing.
use Rattle.std.specs.Prelude.{ℕ, zero, suc, ◌+◌, ◌-◌, ◌≤◌, ◌<◌, ◌≡◌, refl, ◌⊎◌, List, [], ◌∷◌, ◌++◌, length, take, drop}
use Rattle.std.proofs.Common.{sym, ap, ◌∙◌, inl, inr, ⊎_elim, arith, length-drop, take-append-drop}
use Rattle.std.proofs.lemmas.List.{take-append-le, drop-append-le}
use Rattle.basis.specs.Order.{by_lt}
use Rattle.utf8.specs.Encoding.{size}
use Rattle.utf8.specs.Sizes.{size_append}
use Rattle.meaning.specs.Characters.{Class, lf, cr, ht, shy, zwsp, blank, letter, class_of, in_word, in_run}
use Rattle.meaning.specs.Tokens.{Tok, space, ender, first, others, tokens, size_of, ender_of, need_of}
use Rattle.meaning.specs.LineIter.{Held}
use Rattle.meaning.specs.Line.{held_tokens, line_tokens}
use Rattle.laws.specs.Agree.{Agree}
use Rattle.laws.specs.Spell.{spell, Sound}
use Rattle.laws.specs.Runs.{Settled, run_local, ender_least}
use Rattle.laws.specs.TokenLaws.{tokens-step, by-tokens, tokens-sound, size-first, sound-size}

-- The first token of a text that begins with c and p, and what follows it, are decided by these, whatever comes after p.
abbrev Decided : Class → ℕ → List ℕ → Type 0
Decided k c p = (y : List ℕ) → (first k c (p ++ y) ≡ first k c p) × (others k (p ++ y) ≡ others k p ++ y)

run_decided : (c : ℕ) (p : List ℕ) → Settled in_run p → Decided blank c p
unfolding first others
run_decided c p s y = let w = s y in (rw (w.0, w.2), w.1)

word_decided : (c : ℕ) (p : List ℕ) → Settled in_word p → Decided letter c p
unfolding first others
word_decided c p s y = let w = s y in (rw (w.0, w.2), w.1)

-- The first token needs more bytes than there are before x, or they decide it.
first_local : (k : Class) (c : ℕ) (p x : List ℕ) → (size (c ∷ p) < need_of (first k c (p ++ x))) ⊎ Decided k c p
unfolding first others need_of size_of ender_of size
first_local lf c p x = inr (λ y. (refl, refl))
first_local cr c p x = inr (λ y. (refl, refl))
first_local ht c p x = inr (λ y. (refl, refl))
first_local shy c p x = inr (λ y. (refl, refl))
first_local zwsp c p x = inr (λ y. (refl, refl))
first_local blank c p x = ⊎_elim (λ h. inl (omega arith)) (λ s. inr (run_decided c p s)) (run_local in_run p x)
first_local letter c p x = ⊎_elim (λ h. inl (omega arith)) (λ s. inr (word_decided c p s)) (run_local in_word p x)

-- No bytes decide nothing.
agree-none : (ts us : List Tok) → Sound ts → Agree 0 ts us
unfolding need_of
agree-none [] us s = omega arith
agree-none (t ∷ ts) [] s = omega (arith, sound-size t (spell ts) s.0)
agree-none (t ∷ ts) (u ∷ us) s = inl (omega (arith, sound-size t (spell ts) s.0))

agree-first : (c : ℕ) (p x y : List ℕ)
    → Decided (class_of c) c p
    → Agree (size (others (class_of c) p)) (tokens (others (class_of c) p ++ x)) (tokens (others (class_of c) p ++ y))
    → Agree (size (c ∷ p)) (tokens (c ∷ (p ++ x))) (tokens (c ∷ (p ++ y)))
agree-first c p x y d h =
    let k = class_of c in
    let e = size-first c p in
    let left : size (c ∷ p) - size_of (first k c p) ≡ size (others k p) = omega arith in
    rw (tokens-step c (p ++ x), tokens-step c (p ++ y))
    (rw ((d x).0, (d x).1, (d y).0, (d y).1) (inr (refl, omega arith, rw left h)))

agree-more : (c : ℕ) (p : List ℕ)
    → ((x y : List ℕ) → Agree (size (others (class_of c) p)) (tokens (others (class_of c) p ++ x)) (tokens (others (class_of c) p ++ y)))
    → (x y : List ℕ)
    → Agree (size (c ∷ p)) (tokens (c ∷ (p ++ x))) (tokens (c ∷ (p ++ y)))
agree-more c p h x y =
    ⊎_elim (λ n. rw (tokens-step c (p ++ x), tokens-step c (p ++ y)) (inl n)) (λ d. agree-first c p x y d (h x y))
    (first_local (class_of c) c p x)

-- Two texts that begin alike have the same tokens, as far as what they share decides.
pub tokens-agree : (p x y : List ℕ) → Agree (size p) (tokens (p ++ x)) (tokens (p ++ y))
unfolding size
tokens-agree =
    by-tokens (λ p. (x y : List ℕ) → Agree (size p) (tokens (p ++ x)) (tokens (p ++ y)))
    (λ x y. agree-none (tokens x) (tokens y) (tokens-sound x)) agree-more

-- ---- after what was held

-- A list of tokens that begins with what was held, the first n characters.
unfoldable cut : (n count : ℕ) → List ℕ → List Tok
cut n count cs = space (take n cs) count (ender (drop n cs)) ∷ tokens (drop n cs)

ender_append : (q x : List ℕ) → 1 ≤ length q → ender (q ++ x) ≡ ender q
unfolding ender
ender_append [] x h = absurd (omega arith)
ender_append (c ∷ q) x h = refl

-- It ends within p.
cut-is : (n count : ℕ) (p x : List ℕ) → n < length p
    → cut n count (p ++ x) ≡ space (take n p) count (ender (drop n p)) ∷ tokens (drop n p ++ x)
unfolding cut
cut-is n count p x h =
    let some : 1 ≤ length (drop n p) = simp length-drop (omega arith) in
    rw (take-append-le n p x (omega arith), drop-append-le n p x (omega arith), ender_append (drop n p) x some)

cut-within : (n count : ℕ) (p x y : List ℕ) → n < length p → Agree (size p) (cut n count (p ++ x)) (cut n count (p ++ y))
unfolding size_of
cut-within n count p x y h =
    let q = drop n p in
    let both : size (take n p) + size q ≡ size p = sym (size_append (take n p) q) ∙ ap size (take-append-drop n p) in
    let left : size p - size (take n p) ≡ size q = omega arith in
    rw (cut-is n count p x h, cut-is n count p y h) (inr (refl, omega arith, rw left (tokens-agree q x y)))

-- It does not.
take-size : (n : ℕ) (p x : List ℕ) → length p ≤ n → size p ≤ size (take n (p ++ x))
unfolding size
take-size n [] x h = omega arith
take-size zero (c ∷ p) x h = absurd (omega arith)
take-size (suc n) (c ∷ p) x h = omega (arith, take-size n p x (omega arith))

cut-beyond : (n count : ℕ) (p x y : List ℕ) → length p ≤ n → Agree (size p) (cut n count (p ++ x)) (cut n count (p ++ y))
unfolding cut need_of size_of ender_of
cut-beyond n count p x y h = inl (omega (arith, take-size n p x h, ender_least (drop n (p ++ x))))

held-agree : (n count : ℕ) (p x y : List ℕ) → Agree (size p) (held_tokens n count (p ++ x)) (held_tokens n count (p ++ y))
unfolding held_tokens cut
held-agree zero count p x y = tokens-agree p x y
held-agree (suc k) count p x y = by_lt (suc k) (length p) (cut-within (suc k) count p x y) (cut-beyond (suc k) count p x y)

pub line-tokens-agree : (h : Held) (p x y : List ℕ) → Agree (size p) (line_tokens h (p ++ x)) (line_tokens h (p ++ y))
unfolding line_tokens
line-tokens-agree h = held-agree h.chars h.count
