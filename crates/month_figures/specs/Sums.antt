-- The figures of each width, in an array that may be longer than the widths are many.
-- Assumes nothing.
use Rattle.std.specs.Prelude.{ℕ, zero, suc, ◌<◌, ◌≡◌, refl, List, [], ◌∷◌, length, get_or, set}
use Rattle.std.proofs.Common.{ap, arith}
use Rattle.meaning.specs.Month.{no_figures}
use Rattle.meaning.specs.declared.figures.Figures.{Figures}

-- Those of each of these widths; where the array has none, no figures.
unfoldable pub sums_of : (widths : List ℕ) → List Figures → List Figures
sums_of [] fs = []
sums_of (w ∷ ws) [] = no_figures ∷ sums_of ws []
sums_of (w ∷ ws) (f ∷ fs) = f ∷ sums_of ws fs

pub sums-length : (ws : List ℕ) (u : List Figures) → length (sums_of ws u) ≡ length ws
unfolding sums_of
sums-length [] u = refl
sums-length (w ∷ ws) [] = ap suc (sums-length ws [])
sums-length (w ∷ ws) (f ∷ u) = ap suc (sums-length ws u)

pub sums_at : (ws : List ℕ) (u : List Figures) (j : ℕ) (d : Figures) → j < length ws → get_or (sums_of ws u) j d ≡ get_or u j no_figures
unfolding sums_of
sums_at [] u j d h = absurd (omega arith)
sums_at (w ∷ ws) [] zero d h = refl
sums_at (w ∷ ws) [] (suc j) d h = sums_at ws [] j d (omega arith)
sums_at (w ∷ ws) (f ∷ u) zero d h = refl
sums_at (w ∷ ws) (f ∷ u) (suc j) d h = sums_at ws u j d (omega arith)

-- Where the array has some, whatever is said for those that it has not.
pub sums_here : (ws : List ℕ) (u : List Figures) (j : ℕ) (d : Figures) → j < length ws → j < length u → get_or (sums_of ws u) j d ≡ get_or u j d
unfolding sums_of
sums_here [] u j d h i = absurd (omega arith)
sums_here (w ∷ ws) [] j d h i = absurd (omega arith)
sums_here (w ∷ ws) (f ∷ u) zero d h i = refl
sums_here (w ∷ ws) (f ∷ u) (suc j) d h i = sums_here ws u j d (omega arith) (omega arith)

pub sums-put : (ws : List ℕ) (u : List Figures) (j : ℕ) (f : Figures) → j < length ws → j < length u → sums_of ws (set u j f) ≡ set (sums_of ws u) j f
unfolding sums_of
sums-put [] u j f h i = absurd (omega arith)
sums-put (w ∷ ws) [] j f h i = absurd (omega arith)
sums-put (w ∷ ws) (g ∷ u) zero f h i = refl
sums-put (w ∷ ws) (g ∷ u) (suc j) f h i = ap (λ (fs : List Figures). g ∷ fs) (sums-put ws u j f (omega arith) (omega arith))

-- An array with as many figures as widths has these, and no others.
pub sums-all : (ws : List ℕ) (u : List Figures) → length u ≡ length ws → sums_of ws u ≡ u
unfolding sums_of
sums-all [] [] h = refl
sums-all [] (f ∷ u) h = absurd (omega arith)
sums-all (w ∷ ws) [] h = absurd (omega arith)
sums-all (w ∷ ws) (f ∷ u) h = ap (λ (fs : List Figures). f ∷ fs) (sums-all ws u (omega arith))
