-- A text's figures added to those of each width. No sum wraps before as many texts are counted as a month may have.
-- Assumes nothing.
use Rattle.std.specs.Prelude.{ℕ, zero, suc, ◌+◌, ◌*◌, ◌≤◌, ◌<◌, ◌≡◌, refl, List, [], ◌∷◌, length, get_or, Err, Ok}
use Rattle.meaning.specs.Refusals.{Checked}
use Rattle.std.proofs.Common.{sym, ap, ◌∙◌, arith}
use Rattle.meaning.specs.Checks.{text_limit}
use Rattle.meaning.specs.Columns.{with_width}
use Rattle.meaning.specs.Month.{most_clues, figures_by, together}
use Rattle.meaning.specs.Refusals.{number_of}
use Rattle.meaning.specs.declared.settings.Settings.{Settings}
use Rattle.meaning.specs.declared.figures.Figures.{Figures}
use Rattle.meaning.specs.declared.line.Entry.{Entry}
use Rattle.meaning.specs.declared.refusals.Refusal.{Refusal}
use Rattle.rows.specs.RowsFrom.{entries_of, few_entries}
use Rattle.clues.specs.FigureBounds.{broken-few, dropped-few}
use Rattle.month_figures.specs.Rooms.{Room}
use Rattle.month_figures.specs.Sums.{sums_of}
use Rattle.month_figures.specs.Tallies.{one-most}

-- ---- no sum wraps

-- Figures of so many texts: each text has at most one line more than the most bytes of a text, and drops at most as many characters.
pub record Of (n : ℕ) (f : Figures) : Type 0 where
  pub texts : f.texts ≡ n
  pub lines : f.lines ≤ (text_limit + 1) * n
  pub broken : f.broken ≤ (text_limit + 1) * n
  pub dropped : f.dropped ≤ text_limit * n
  pub long : f.long ≤ n
  pub invalid : f.invalid ≤ n

pub of_room : (n : ℕ) (f g : Figures) → n < most_clues → Of n f → Of 1 g → Room f g
of_room n f g h a b =
    record {
      texts = omega (arith, a.texts, b.texts);
      lines = omega (arith, a.lines, b.lines);
      broken = omega (arith, a.broken, b.broken);
      dropped = omega (arith, a.dropped, b.dropped);
      long = omega (arith, a.long, b.long);
      invalid = omega (arith, a.invalid, b.invalid);
    }

pub of_more : (n : ℕ) (f g : Figures) → Of n f → Of 1 g → Of (suc n) (together f g)
unfolding together
of_more n f g a b =
    record {
      texts = omega (arith, a.texts, b.texts);
      lines = omega (arith, a.lines, b.lines);
      broken = omega (arith, a.broken, b.broken);
      dropped = omega (arith, a.dropped, b.dropped);
      long = omega (arith, a.long, b.long);
      invalid = omega (arith, a.invalid, b.invalid);
    }

-- The figures of one text.
pub of_one : (k : Checked) (s : Settings) (t : List ℕ) → (k ≡ Ok tt → length t ≤ text_limit) → Of 1 (figures_by k (entries_of s t))
unfolding figures_by
of_one (Ok tt) s t h =
    let short = h refl in
    record {
      texts = refl;
      lines = omega (arith, few_entries s t);
      broken = omega (arith, few_entries s t, broken-few (entries_of s t));
      dropped = omega (arith, dropped-few s t);
      long = omega arith;
      invalid = omega arith;
    }
of_one (Err r) s t h =
    record {
      texts = refl;
      lines = omega arith;
      broken = omega arith;
      dropped = omega arith;
      long = omega (arith, one-most (number_of r) 3);
      invalid = omega (arith, one-most (number_of r) 4);
    }

-- ---- each width

-- The widths are in range.
abbrev pub Narrow : List ℕ → Type 0
Narrow [] = Unit {0}
Narrow (w ∷ ws) = (w ≤ 4096) × Narrow ws

-- As many figures as widths, each of n texts.
abbrev pub EachOf : ℕ → (widths : List ℕ) → List Figures → Type 0
EachOf n [] [] = Unit {0}
EachOf n [] (f ∷ fs) = ⊥
EachOf n (w ∷ ws) [] = ⊥
EachOf n (w ∷ ws) (f ∷ fs) = Of n f × EachOf n ws fs

unfoldable pub added_to : Settings → (text : List ℕ) → Checked → (widths : List ℕ) → List Figures → List Figures
added_to s t k [] fs = fs
added_to s t k (w ∷ ws) [] = []
added_to s t k (w ∷ ws) (f ∷ fs) = together f (figures_by k (entries_of (with_width s w) t)) ∷ added_to s t k ws fs

pub each_more : (s : Settings) (t : List ℕ) (k : Checked) (n : ℕ) (ws : List ℕ) (fs : List Figures) → (k ≡ Ok tt → length t ≤ text_limit)
    → EachOf n ws fs → EachOf (suc n) ws (added_to s t k ws fs)
unfolding added_to
each_more s t k n [] [] h e = tt
each_more s t k n [] (f ∷ fs) h e = absurd e
each_more s t k n (w ∷ ws) [] h e = absurd e
each_more s t k n (w ∷ ws) (f ∷ fs) h e =
    (of_more n f _ e.0 (of_one k (with_width s w) t h), each_more s t k n ws fs h e.1)

pub each-length : (n : ℕ) (ws : List ℕ) (fs : List Figures) → EachOf n ws fs → length fs ≡ length ws
each-length n [] [] e = refl
each-length n [] (f ∷ fs) e = absurd e
each-length n (w ∷ ws) [] e = absurd e
each-length n (w ∷ ws) (f ∷ fs) e = ap suc (each-length n ws fs e.1)

pub each_at : (n : ℕ) (ws : List ℕ) (fs : List Figures) (j : ℕ) (d : Figures) → EachOf n ws fs → j < length ws → Of n (get_or fs j d)
each_at n [] fs j d e h = absurd (omega arith)
each_at n (w ∷ ws) [] j d e h = absurd e
each_at n (w ∷ ws) (f ∷ fs) zero d e h = e.0
each_at n (w ∷ ws) (f ∷ fs) (suc j) d e h = each_at n ws fs j d e.1 (omega arith)

pub narrow_at : (ws : List ℕ) (j : ℕ) → Narrow ws → j < length ws → get_or ws j 0 ≤ 4096
narrow_at [] j e h = omega arith
narrow_at (w ∷ ws) zero e h = e.0
narrow_at (w ∷ ws) (suc j) e h = narrow_at ws j e.1 (omega arith)

-- Of an array that is longer than the widths are many: figures are added to those of the widths, and the others stay.
pub added-length : (s : Settings) (t : List ℕ) (k : Checked) (ws : List ℕ) (fs : List Figures) → length (added_to s t k ws fs) ≡ length fs
unfolding added_to
added-length s t k [] fs = refl
added-length s t k (w ∷ ws) [] = refl
added-length s t k (w ∷ ws) (f ∷ fs) = ap suc (added-length s t k ws fs)

pub sums-added : (s : Settings) (t : List ℕ) (k : Checked) (ws : List ℕ) (fs : List Figures) → length ws ≤ length fs
    → sums_of ws (added_to s t k ws fs) ≡ added_to s t k ws (sums_of ws fs)
unfolding added_to sums_of
sums-added s t k [] fs h = refl
sums-added s t k (w ∷ ws) [] h = absurd (omega arith)
sums-added s t k (w ∷ ws) (f ∷ fs) h =
    ap (λ (gs : List Figures). together f (figures_by k (entries_of (with_width s w) t)) ∷ gs) (sums-added s t k ws fs (omega arith))

-- A text's figures, where what its check said is known.
pub by-checked : (k j : Checked) (es : List Entry) (g : Figures) → k ≡ j → g ≡ figures_by j es → g ≡ figures_by k es
by-checked k j es g e f = f ∙ ap (λ (c : Checked). figures_by c es) (sym e)

pub by-refused : (k : Checked) (r : Refusal) (es : List Entry) (g : Figures) → k ≡ Err r → g ≡ figures_by (Err r) [] → g ≡ figures_by k es
unfolding figures_by
by-refused k r es g e f = f ∙ ap (λ (c : Checked). figures_by c es) (sym e)
