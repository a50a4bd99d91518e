-- Two tables whose first lines start at the same places have the same first pages (rule 10).
-- Assumes nothing.
use Rattle.std.specs.Prelude.{ℕ, zero, suc, ◌+◌, ◌*◌, ◌≤◌, ◌≡◌, refl, List, [], ◌∷◌, ◌++◌, length, take, drop}
use Rattle.std.proofs.Common.{suc-mul, le-mul_of_pos_right, arith}
use Rattle.meaning.specs.WellFormed.{text_length}
use Rattle.meaning.specs.Pages.{end_before, pages_by, pages_of}
use Rattle.meaning.specs.declared.line.Entry.{Entry}

-- Both have so many lines, and these start at the same places.
abbrev pub SameStarts : ℕ → (es fs : List Entry) → Type 0
SameStarts zero es fs = Unit {0}
SameStarts (suc n) [] fs = ⊥
SameStarts (suc n) (e ∷ es) [] = ⊥
SameStarts (suc n) (e ∷ es) (f ∷ fs) = (e.start ≡ f.start) × SameStarts n es fs

-- They are as many, and those from the j-th on start alike too.
pub same-long : (n : ℕ) (es fs : List Entry) → SameStarts n es fs → (n ≤ length es) × (n ≤ length fs)
same-long zero es fs h = (omega arith, omega arith)
same-long (suc n) [] fs h = absurd h
same-long (suc n) (e ∷ es) [] h = absurd h
same-long (suc n) (e ∷ es) (f ∷ fs) h = let t = same-long n es fs h.1 in (omega arith, omega arith)

pub same-onward : (j m n : ℕ) (es fs : List Entry) → j + m ≤ n → SameStarts n es fs → SameStarts m (drop j es) (drop j fs)
same-onward zero zero n es fs p h = tt
same-onward zero (suc m) zero es fs p h = absurd (omega arith)
same-onward zero (suc m) (suc n) [] fs p h = absurd h
same-onward zero (suc m) (suc n) (e ∷ es) [] p h = absurd h
same-onward zero (suc m) (suc n) (e ∷ es) (f ∷ fs) p h = (h.0, same-onward zero m n es fs (omega arith) h.1)
same-onward (suc j) m zero es fs p h = absurd (omega arith)
same-onward (suc j) m (suc n) [] fs p h = absurd h
same-onward (suc j) m (suc n) (e ∷ es) [] p h = absurd h
same-onward (suc j) m (suc n) (e ∷ es) (f ∷ fs) p h = same-onward j m n es fs (omega arith) h.1

-- Lines that are the same, and a line after them that starts at the same place.
pub same_then : (u : List Entry) (e f : Entry) (es fs : List Entry) → e.start ≡ f.start
    → SameStarts (suc (length u)) (u ++ (e ∷ es)) (u ++ (f ∷ fs))
same_then [] e f es fs h = (h, tt)
same_then (x ∷ u) e f es fs h = (refl, same_then u e f es fs h)

-- ---- pages

same_end : (b c : ℕ) (es fs : List Entry) → SameStarts 1 es fs → end_before b es ≡ end_before c fs
unfolding end_before
same_end b c [] fs h = absurd h
same_end b c (e ∷ es) [] h = absurd h
same_end b c (e ∷ es) (f ∷ fs) h = rw h.0

same_by : (i n m h k b c : ℕ) (es fs : List Entry) → i ≤ n → i ≤ m → SameStarts (suc (i * h)) es fs
    → take i (pages_by n h k b es) ≡ take i (pages_by m h k c fs)
unfolding pages_by
same_by zero n m h k b c es fs p q s = refl
same_by (suc i) zero m h k b c es fs p q s = absurd (omega arith)
same_by (suc i) (suc n) zero h k b c es fs p q s = absurd (omega arith)
same_by (suc i) (suc n) (suc m) h k b c [] fs p q s = absurd s
same_by (suc i) (suc n) (suc m) h k b c (e ∷ es) [] p q s = absurd s
same_by (suc i) (suc n) (suc m) h k b c (e ∷ es) (f ∷ fs) p q s =
    let far : h + suc (i * h) ≤ suc (suc i * h) = omega (arith, suc-mul i h) in
    let more = same-onward h (suc (i * h)) (suc (suc i * h)) (e ∷ es) (f ∷ fs) far s in
    let end = same_end b c (drop h (e ∷ es)) (drop h (f ∷ fs)) (same-onward h 1 (suc (suc i * h)) (e ∷ es) (f ∷ fs) (omega arith) s) in
    let pages = same_by i n m h (k + h) b c (drop h (e ∷ es)) (drop h (f ∷ fs)) (omega arith) (omega arith) more in
    λ x. record { first = k; start = s.0 x; end = record { 0 = end x } } ∷ pages x

-- The first i pages are the same where the first i * h lines and one more start at the same places: the last of the pages ends
-- where that line starts.
pub same-pages : (h i : ℕ) (es fs : List Entry) → 1 ≤ h → SameStarts (suc (i * h)) es fs → take i (pages_of h es) ≡ take i (pages_of h fs)
unfolding pages_of
same-pages h i es fs some s =
    let long = same-long (suc (i * h)) es fs s in
    let few = le-mul_of_pos_right i some in
    same_by i (length es) (length fs) h 0 (text_length es) (text_length fs) es fs (omega arith) (omega arith) s
