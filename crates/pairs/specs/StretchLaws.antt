-- Stretches of plain words with one space between any two: byte after byte, stretch after stretch, and what is left without spaces.
-- Assumes nothing.
use Rattle.std.specs.Prelude.{◌≡◌, Bool, true, false, ◌&&◌, ◌||◌, not, List, ℕ, zero, suc, ◌+◌, ◌-◌, ◌≤◌, ◌<◌, ltb, leb, eqb, length, get_or}
use Rattle.std.proofs.Math.Path.{refl}
use Rattle.std.proofs.Common.{subst, ◌∙◌, arith}
use Rattle.std.proofs.lemmas.Bool.{false≢true}
use borrow.Author.Tests.{lt-ltb, eq-eqb, leb-true, eqb-true}
use Rattle.basis.specs.Choice.{pick, pick_true, and_true, and_both}
use Rattle.basis.specs.Order.{by_lt}
use Rattle.parser.specs.Ascii.{plain, plain_at, space_at, ender_at}
use Rattle.parser.specs.Letters.{GoesOn, Lettered}
use Rattle.parser.specs.LetterLaws.{goes_on_lem, lettered_none, lettered_more}
use Rattle.pairs.specs.Stretches.{smooth, Smooth, Plains, Unspaced, LastSpace}

-- ---- smooth

pub smooth-none : (t : List ℕ) (from : ℕ) → Smooth t from from
smooth-none t from i a b = absurd (omega arith)

-- One byte more of a stretch that is tested byte by byte.
pub smooth-tested : (t : List ℕ) (from i : ℕ) (all : Bool) → (all ≡ true → Smooth t from i)
    → all && smooth (get_or t (i - 1) 0) (get_or t i 0) ≡ true → Smooth t from (i + 1)
smooth-tested t from i all s e j a b =
    let both = and_true all (smooth (get_or t (i - 1) 0) (get_or t i 0)) e in
    by_lt j i
    (λ l. s both.0 j a l)
    (λ l. let q : i ≡ j = omega arith in subst (λ (k : ℕ). smooth (get_or t (k - 1) 0) (get_or t k 0) ≡ true) q both.1)

pub smooth-on : (t : List ℕ) (from i to : ℕ) → Smooth t from i → Smooth t i to → Smooth t from to
smooth-on t from i to s u k a b = by_lt k i (λ l. s k a l) (λ l. u k l b)

pub smooth-part : (t : List ℕ) (from to less : ℕ) → Smooth t from to → less ≤ to → Smooth t from less
smooth-part t from to less s h k a b = s k a (omega arith)

-- ---- plain

-- A smooth byte that is no space.
pub plain-smooth : (before b : ℕ) → smooth before b ≡ true → (b ≡ 0x20 → ⊥) → plain b ≡ true
plain-smooth before b e n =
    let f = and_true (leb 0x20 b && ltb b 0x80) (not (eqb before 0x20) || not (eqb b 0x20)) e in
    let g = and_true (leb 0x20 b) (ltb b 0x80) f.0 in
    and_both (ltb 0x20 b) (ltb b 0x80) (lt-ltb 0x20 b (omega (arith, n, leb-true 0x20 b g.0))) g.1

-- No space stands behind a space.
pub smooth-apart : (before b : ℕ) → smooth before b ≡ true → before ≡ 0x20 → b ≡ 0x20 → ⊥
smooth-apart before b e p q =
    let f = and_true (leb 0x20 b && ltb b 0x80) (not (eqb before 0x20) || not (eqb b 0x20)) e in
    false≢true (rw (eq-eqb before 0x20 p, eq-eqb b 0x20 q) at f.1)

-- Behind the last space of a smooth stretch all is plain.
pub plains_behind : (t : List ℕ) (at limit end : ℕ) → Smooth t (at + 1) (limit + 1) → LastSpace t at limit end → Plains t (end + 1) (limit + 1)
plains_behind t at limit end s l i a b =
    plain-smooth (get_or t (i - 1) 0) (get_or t i 0) (s i (omega (arith, l.low)) b) (l.none i (omega arith) (omega arith))

pub plain_here : (t : List ℕ) (i : ℕ) → i < length t → plain (get_or t i 0) ≡ true → plain_at t i ≡ true
unfolding plain_at
plain_here t i h e = pick_true (ltb i (length t)) (plain (get_or t i 0)) false (lt-ltb i (length t) h) ∙ e

-- Plain bytes are letters of one byte each.
plains_more : (t : List ℕ) (from n : ℕ) → from + n ≤ length t → Plains t from (from + n) → Lettered t from (from + n)
plains_more t from zero h p = let z : from ≡ from + 0 = omega arith in subst (λ (k : ℕ). Lettered t from k) z (lettered_none t from (omega arith))
plains_more t from (suc n) h p =
    let z : from + n + 1 ≡ from + suc n = omega arith in
    let l = plains_more t from n (omega arith) (λ i a b. p i a (omega arith)) in
    subst (λ (k : ℕ). Lettered t from k) z (lettered_more t from (from + n) l (omega arith) (p (from + n) (omega arith) (omega arith)))

pub lettered_plains : (t : List ℕ) (from to : ℕ) → from ≤ to → to ≤ length t → Plains t from to → Lettered t from to
lettered_plains t from to a b p =
    let z : from + (to - from) ≡ to = omega arith in
    subst (λ (k : ℕ). Lettered t from k) z (plains_more t from (to - from) (omega arith) (λ i c d. p i c (omega arith)))

pub lettered_on : (t : List ℕ) (from i to : ℕ) → Lettered t from i → Lettered t i to → Lettered t from to
lettered_on t from i to l x =
    let z : i - from + (to - i) ≡ to - from = omega (arith, l.forward, x.forward) in
    subst (λ (k : ℕ). GoesOn t from to k 0) z (goes_on_lem t from i (i - from) 0 l to (to - i) 0 x)

-- ---- the last space

pub unspaced_none : (t : List ℕ) (limit : ℕ) → Unspaced t limit limit
unspaced_none t limit i a b e = omega arith

-- One byte more, before those that were looked at.
pub unspaced_more : (t : List ℕ) (at limit : ℕ) → Unspaced t at limit → (get_or t at 0 ≡ 0x20 → ⊥) → Unspaced t (at - 1) limit
unspaced_more t at limit u n i a b e =
    by_lt at i (λ l. u i l b e) (λ l. let q : i ≡ at = omega arith in n (subst (λ (k : ℕ). get_or t k 0 ≡ 0x20) q e))

pub space-here : (t : List ℕ) (i : ℕ) → i < length t → get_or t i 0 ≡ 0x20 → space_at t i ≡ true
unfolding space_at
space-here t i h e = pick_true (ltb i (length t)) (eqb (get_or t i 0) 0x20) false (lt-ltb i (length t) h) ∙ eq-eqb (get_or t i 0) 0x20 e

-- What a space says of its byte, and of the word before it.
module _ (t : List ℕ) (i : ℕ) (inside : i < length t) where
  pub space-byte : space_at t i ≡ true → get_or t i 0 ≡ 0x20
  unfolding space_at pick
  space-byte e = let f = rw (lt-ltb i (length t) inside) at e in eqb-true (get_or t i 0) 0x20 f

  pub space-ends : get_or t i 0 ≡ 0x20 → ender_at t i ≡ true
  unfolding ender_at pick
  space-ends e = rw (lt-ltb i (length t) inside, e) refl
