-- The test of membership says what it should (rule 1).
-- Assumes nothing.
use Rattle.std.specs.Prelude.{◌≡◌, refl, ◌↔◌, Bool, true, false, ◌&&◌, ◌||◌, ℕ, ◌+◌, ◌≤◌, ◌<◌, eqb, leb, ltb}
use Rattle.std.proofs.Common.{sym, subst, ◌∙◌, arith, eq-eqb, ne_eqb, eqb-true, leb-true, ltb-true}
use Rattle.std.proofs.lemmas.Bool.{false≢true}
use mathlib.Core.List.{List, [], ◌∷◌, Memᴰ}
use Rattle.basis.specs.Choice.{by-either, either_first, either_second, and_true}
use Rattle.utf8.specs.WhiteSpace.{white_spaces, member, is_white}

member-true : (c : ℕ) (l : List ℕ) → member c l ≡ true → Memᴰ c l
unfolding member
member-true c [] e = absurd (false≢true e)
member-true c (x ∷ xs) e =
    by-either (eqb x c) (member c xs) e (λ p. Memᴰ.head (sym (eqb-true x c p))) (λ p. Memᴰ.tail (member-true c xs p))

member_is : (c : ℕ) (l : List ℕ) → Memᴰ c l → member c l ≡ true
unfolding member
member_is c l (Memᴰ.head {x = x} {xs = xs} e) = either_first (eqb x c) (member c xs) (eq-eqb x c (sym e))
member_is c l (Memᴰ.tail {x = x} {xs = xs} m) = either_second (eqb x c) (member c xs) (member_is c xs m)

pub white-member : (c : ℕ) → (is_white c ≡ true) ↔ Memᴰ c white_spaces
unfolding is_white
white-member c = (member-true c white_spaces, member_is c white_spaces)

-- ---- gaps

-- Of the numbers from lo on and below hi a list has no others than some: a test that computes.
unfoldable pub only : (lo hi : ℕ) (some : List ℕ) → List ℕ → Bool
only lo hi some [] = true
only lo hi some (x ∷ xs) = (ltb x lo || leb hi x || member x some) && only lo hi some xs

-- What lies there and is none of those is not in the list.
pub in_gap : (lo hi : ℕ) (some : List ℕ) (c : ℕ) (l : List ℕ) → only lo hi some l ≡ true → lo ≤ c → c < hi → member c some ≡ false → member c l ≡ false
unfolding only member
in_gap lo hi some c [] e a b n = refl
in_gap lo hi some c (x ∷ xs) e a b n =
    let f = and_true (ltb x lo || leb hi x || member x some) (only lo hi some xs) e in
    let d : x ≡ c → ⊥ =
    λ p. by-either (ltb x lo || leb hi x) (member x some) f.0
    (λ q. by-either (ltb x lo) (leb hi x) q (λ r. omega (arith, ltb-true x lo r)) (λ r. omega (arith, leb-true hi x r)))
    (λ q. false≢true (sym n ∙ subst (λ (y : ℕ). member y some ≡ true) p q)) in
    rw (ne_eqb x c d) (in_gap lo hi some c xs f.1 a b n)

-- The great gaps of White_Space.
pub above-all : (c : ℕ) → 0x3000 < c → is_white c ≡ false
unfolding is_white white_spaces only member
above-all c h = in_gap 0x3001 (c + 1) [] c white_spaces refl h (omega arith) refl

pub between-spaces : (c : ℕ) → 0x00A0 < c → c < 0x1680 → is_white c ≡ false
unfolding is_white white_spaces only member
between-spaces c a b = in_gap 0x00A1 0x1680 [] c white_spaces refl a b refl

pub between-breaks : (c : ℕ) → 0x200A < c → c < 0x2028 → is_white c ≡ false
unfolding is_white white_spaces only member
between-breaks c a b = in_gap 0x200B 0x2028 [] c white_spaces refl a b refl

pub below_ideographs : (c : ℕ) → 0x205F < c → c < 0x3000 → is_white c ≡ false
unfolding is_white white_spaces only member
below_ideographs c a b = in_gap 0x2060 0x3000 [] c white_spaces refl a b refl
