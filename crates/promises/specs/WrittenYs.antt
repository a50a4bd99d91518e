-- An index with ys written to it: what it then holds, and what it keeps (rule 11).
-- Assumes nothing.
use Rattle.std.specs.Prelude.{ℕ, zero, suc, ◌≤◌, ◌≡◌, refl, List, [], ◌∷◌, ℤ, pos, length, get_or, take, drop}
use Rattle.std.proofs.Common.{ap, arith}
use Rattle.meaning.specs.YIndex.{written_from}

-- Entries that are right already may be kept.
pub kept-right : (k : ℕ) (buffer ys : List ℤ) → take k buffer ≡ take k ys → written_from k buffer ys ≡ written_from 0 buffer ys
unfolding written_from
kept-right zero buffer ys e = refl
kept-right (suc k) [] [] e = refl
kept-right (suc k) (x ∷ buffer) [] e = refl
kept-right (suc k) [] (y ∷ ys) e = refl
kept-right (suc k) (x ∷ buffer) (y ∷ ys) e =
    let head : x ≡ y = ap (λ (l : List ℤ). get_or l 0 (pos 0)) e in
    let tail = kept-right k buffer ys (ap (drop 1) e) in
    λ i. head i ∷ tail i

-- Where all are written, a buffer with room for them holds them; and what lies past them is as it was.
pub written_held : (buffer ys : List ℤ) → length ys ≤ length buffer → take (length ys) (written_from 0 buffer ys) ≡ ys
unfolding written_from
written_held buffer [] h = refl
written_held [] (y ∷ ys) h = absurd (omega arith)
written_held (x ∷ buffer) (y ∷ ys) h = ap (◌∷◌ y) (written_held buffer ys (omega arith))

pub written-length : (k : ℕ) (buffer ys : List ℤ) → length (written_from k buffer ys) ≡ length buffer
unfolding written_from
written-length k [] [] = refl
written-length k (x ∷ buffer) [] = refl
written-length k [] (y ∷ ys) = refl
written-length zero (x ∷ buffer) (y ∷ ys) = ap suc (written-length zero buffer ys)
written-length (suc k) (x ∷ buffer) (y ∷ ys) = ap suc (written-length k buffer ys)

-- Entries before line k are not written.
pub written-before : (k : ℕ) (buffer ys : List ℤ) → take k (written_from k buffer ys) ≡ take k buffer
unfolding written_from
written-before zero buffer ys = refl
written-before (suc k) buffer [] = refl
written-before (suc k) [] (y ∷ ys) = refl
written-before (suc k) (x ∷ buffer) (y ∷ ys) = ap (◌∷◌ x) (written-before k buffer ys)

pub written_behind : (k : ℕ) (buffer ys : List ℤ) → drop (length ys) (written_from k buffer ys) ≡ drop (length ys) buffer
unfolding written_from
written_behind k buffer [] = refl
written_behind k [] (y ∷ ys) = refl
written_behind zero (x ∷ buffer) (y ∷ ys) = written_behind zero buffer ys
written_behind (suc k) (x ∷ buffer) (y ∷ ys) = written_behind k buffer ys
