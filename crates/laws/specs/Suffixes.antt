-- Parts of a text told apart by their bytes: a character takes at least one.
-- Assumes nothing.
use Rattle.std.specs.Prelude.{ℕ, zero, suc, ◌+◌, ◌-◌, ◌≤◌, ◌<◌, ◌≡◌, refl, List, [], ◌∷◌, ◌++◌, length, take}
use Rattle.std.proofs.Common.{arith, sym, ap, ◌∙◌, length-append, length-take, le-leb}
use Rattle.std.proofs.Math.Seq.{take-append_seam}
use Rattle.std.proofs.lemmas.Bool.{lt-leb}
use Rattle.basis.specs.Choice.{pick}
use Rattle.utf8.specs.Encoding.{bytes, size}
use Rattle.utf8.specs.Sizes.{bytes_range, size_append}
use Rattle.meaning.specs.Edit.{chars_in}
use Rattle.laws.specs.TokenLaws.{length-size}

-- More text takes more bytes.
longer : (c : ℕ) (x y d : List ℕ) → d ≡ c ∷ (x ++ y) → size y < size d
unfolding size
longer c x y d e = rw e (omega (arith, bytes_range c, size_append x y))

-- Two ends of a text that take the same bytes are the same.
pub same_suffix : (x c y d : List ℕ) → x ++ c ≡ y ++ d → size c ≡ size d → c ≡ d
same_suffix [] c [] d e z = e
same_suffix [] c (b ∷ y) d e z = absurd (omega (arith, longer b y d c e))
same_suffix (a ∷ x) c [] d e z = absurd (omega (arith, longer a x c d (sym e)))
same_suffix (a ∷ x) c (b ∷ y) d e z = same_suffix x c y d (cc) z

-- Of two ends, the one that takes no more bytes is an end of the other.
pub record Suffix (v c : List ℕ) : Type 0 where
  pub front : List ℕ
  pub is : v ≡ front ++ c

pub shorter_suffix : (w c u v : List ℕ) → w ++ c ≡ u ++ v → size c ≤ size v → Suffix v c
shorter_suffix w c [] v e z = record { front = w; is = sym e }
shorter_suffix [] c (a ∷ u) v e z = absurd (omega (arith, longer a u v c e))
shorter_suffix (b ∷ w) c (a ∷ u) v e z = shorter_suffix w c u v (cc) z

pub same_ends : (v c d : List ℕ) → Suffix v c → Suffix v d → size c ≡ size d → c ≡ d
same_ends v c d f g z = same_suffix f.front c g.front d (sym f.is ∙ g.is) z

-- Two fronts of a text that take the same bytes have as many characters.
pub same_count : (j k : ℕ) (c : List ℕ) → j ≤ length c → k ≤ length c → size (take j c) ≡ size (take k c) → j ≡ k
unfolding size
same_count zero zero c g h e = refl
same_count zero (suc k) [] g h e = absurd (omega arith)
same_count zero (suc k) (b ∷ c) g h e = absurd (omega (arith, bytes_range b))
same_count (suc j) k [] g h e = absurd (omega arith)
same_count (suc j) zero (b ∷ c) g h e = absurd (omega (arith, bytes_range b))
same_count (suc j) (suc k) (b ∷ c) g h e = ap suc (same_count j k c (omega arith) (omega arith) (omega arith))

-- The characters up to where k of them end are those k.
pub chars_in-take : (k : ℕ) (c : List ℕ) → k ≤ length c → chars_in c (size (take k c)) ≡ k
unfolding chars_in size pick
chars_in-take zero [] h = refl
chars_in-take zero (b ∷ c) h = simp (lt-leb (bytes b) 0 (bytes_range b).0)
chars_in-take (suc k) [] h = absurd (omega arith)
chars_in-take (suc k) (b ∷ c) h =
    let e : bytes b + size (take k c) - bytes b ≡ size (take k c) = omega arith in
    simp (le-leb (bytes b) (bytes b + size (take k c)) (omega arith), e) (ap suc (chars_in-take k c (omega arith)))

-- The characters up to where a text's front ends are those of the front.
pub chars_in-front : (x y : List ℕ) → chars_in (x ++ y) (size x) ≡ length x
chars_in-front x y = rw take-append_seam at (chars_in-take (length x) (x ++ y) (rw length-append (omega arith)))

-- Characters take a byte each at least.
pub take-size : (k : ℕ) (c : List ℕ) → k ≤ length c → k ≤ size (take k c)
take-size k c h = omega (arith, length-size (take k c), length-take k c)
