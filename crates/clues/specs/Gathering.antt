-- The figures of a month are gathered clue after clue, in all widths at once: they are those that the definition sums for each width.
-- Assumes nothing.
use Rattle.std.specs.Prelude.{ℕ, ◌+◌, ◌≤◌, max, ◌≡◌, refl, List, [], ◌∷◌, length, map}
use Rattle.std.proofs.Common.{sym, ap, ◌∙◌, arith}
use Rattle.meaning.specs.Checks.{check_text}
use Rattle.meaning.specs.Columns.{with_width}
use Rattle.meaning.specs.Month.{figures_by, figures_of, no_figures, together, figures_of_all, month_of}
use Rattle.meaning.specs.declared.settings.Settings.{Settings}
use Rattle.meaning.specs.declared.figures.Figures.{Figures}
use Rattle.rows.specs.RowsFrom.{entries_of, entries_are}
use Rattle.clues.specs.Summing.{added_to, added-length, sums-added}
use Rattle.month_figures.specs.Sums.{sums_of}

-- A clue more, and clues one after the other.
unfoldable pub with_clue : Settings → (widths : List ℕ) → List Figures → (text : List ℕ) → List Figures
with_clue s ws fs t = added_to s t (check_text t) ws fs

unfoldable pub with_clues : Settings → (widths : List ℕ) → List Figures → List (List ℕ) → List Figures
with_clues s ws fs [] = fs
with_clues s ws fs (t ∷ ts) = with_clues s ws (with_clue s ws fs t) ts

-- Before the first clue.
abbrev pub none_yet : (widths : List ℕ) → List Figures
none_yet ws = map (λ (w : ℕ). no_figures) ws

-- Of an array that has figures for all widths, and maybe more.
pub sums-with_clue : (s : Settings) (ws : List ℕ) (fs : List Figures) (t : List ℕ) → length ws ≤ length fs → sums_of ws (with_clue s ws fs t) ≡ with_clue s ws (sums_of ws fs) t
unfolding with_clue
sums-with_clue s ws fs t h = sums-added s t (check_text t) ws fs h

pub sums-with_clues : (s : Settings) (ws : List ℕ) (fs : List Figures) (ts : List (List ℕ)) → length ws ≤ length fs
    → sums_of ws (with_clues s ws fs ts) ≡ with_clues s ws (sums_of ws fs) ts
unfolding with_clues with_clue
sums-with_clues s ws fs [] h = refl
sums-with_clues s ws fs (t ∷ ts) h =
    sums-with_clues s ws (with_clue s ws fs t) ts (omega (arith, added-length s t (check_text t) ws fs))
    ∙ ap (λ (gs : List Figures). with_clues s ws gs ts) (sums-with_clue s ws fs t h)

-- ---- sums

none-added : (f : Figures) → together f no_figures ≡ f
unfolding together
none-added f =
    let texts : f.texts + 0 ≡ f.texts = omega arith in
    let lines : f.lines + 0 ≡ f.lines = omega arith in
    let broken : f.broken + 0 ≡ f.broken = omega arith in
    let dropped : f.dropped + 0 ≡ f.dropped = omega arith in
    let long : f.long + 0 ≡ f.long = omega arith in
    let invalid : f.invalid + 0 ≡ f.invalid = omega arith in
    let most : max f.most 0 ≡ f.most = omega arith in
    λ i. record { texts = texts i; lines = lines i; broken = broken i; dropped = dropped i; long = long i; invalid = invalid i; most = most i }

any_order : (f g h : Figures) → together (together f g) h ≡ together f (together g h)
unfolding together
any_order f g h =
    let texts : f.texts + g.texts + h.texts ≡ f.texts + (g.texts + h.texts) = omega arith in
    let lines : f.lines + g.lines + h.lines ≡ f.lines + (g.lines + h.lines) = omega arith in
    let broken : f.broken + g.broken + h.broken ≡ f.broken + (g.broken + h.broken) = omega arith in
    let dropped : f.dropped + g.dropped + h.dropped ≡ f.dropped + (g.dropped + h.dropped) = omega arith in
    let long : f.long + g.long + h.long ≡ f.long + (g.long + h.long) = omega arith in
    let invalid : f.invalid + g.invalid + h.invalid ≡ f.invalid + (g.invalid + h.invalid) = omega arith in
    let most : max (max f.most g.most) h.most ≡ max f.most (max g.most h.most) = omega arith in
    λ i. record { texts = texts i; lines = lines i; broken = broken i; dropped = dropped i; long = long i; invalid = invalid i; most = most i }

none_before : (f : Figures) → together no_figures f ≡ f
unfolding together
none_before f =
    let texts : 0 + f.texts ≡ f.texts = omega arith in
    let lines : 0 + f.lines ≡ f.lines = omega arith in
    let broken : 0 + f.broken ≡ f.broken = omega arith in
    let dropped : 0 + f.dropped ≡ f.dropped = omega arith in
    let long : 0 + f.long ≡ f.long = omega arith in
    let invalid : 0 + f.invalid ≡ f.invalid = omega arith in
    let most : max 0 f.most ≡ f.most = omega arith in
    λ i. record { texts = texts i; lines = lines i; broken = broken i; dropped = dropped i; long = long i; invalid = invalid i; most = most i }

-- ---- one width

unfoldable gathered : Settings → Figures → List (List ℕ) → Figures
gathered s f [] = f
gathered s f (t ∷ ts) = gathered s (together f (figures_of s t)) ts

gathered-is : (s : Settings) (f : Figures) (ts : List (List ℕ)) → gathered s f ts ≡ together f (figures_of_all s ts)
unfolding gathered figures_of_all
gathered-is s f [] = sym (none-added f)
gathered-is s f (t ∷ ts) = gathered-is s (together f (figures_of s t)) ts ∙ any_order f (figures_of s t) (figures_of_all s ts)

-- ---- all widths

one_clue : (s : Settings) (t : List ℕ) → figures_by (check_text t) (entries_of s t) ≡ figures_of s t
unfolding figures_of
one_clue s t = ap (figures_by (check_text t)) (entries_are s t)

apart : (s : Settings) (w : ℕ) (ws : List ℕ) (f : Figures) (fs : List Figures) (ts : List (List ℕ))
    → with_clues s (w ∷ ws) (f ∷ fs) ts ≡ gathered (with_width s w) f ts ∷ with_clues s ws fs ts
unfolding with_clues gathered with_clue added_to
apart s w ws f fs [] = refl
apart s w ws f fs (t ∷ ts) =
    apart s w ws (together f (figures_by (check_text t) (entries_of (with_width s w) t))) (with_clue s ws fs t) ts
    ∙ ap (λ (g : Figures). gathered (with_width s w) (together f g) ts ∷ with_clues s ws (with_clue s ws fs t) ts) (one_clue (with_width s w) t)

no_widths : (s : Settings) (fs : List Figures) (ts : List (List ℕ)) → with_clues s [] fs ts ≡ fs
unfolding with_clues with_clue added_to
no_widths s fs [] = refl
no_widths s fs (t ∷ ts) = no_widths s fs ts

-- The sums that are counted are those of the month.
pub month_is : (s : Settings) (ws : List ℕ) (ts : List (List ℕ)) → with_clues s ws (none_yet ws) ts ≡ month_of s ws ts
unfolding month_of
month_is s [] ts = no_widths s [] ts
month_is s (w ∷ ws) ts =
    let here = gathered-is (with_width s w) no_figures ts ∙ none_before (figures_of_all (with_width s w) ts) in
    let more = month_is s ws ts in
    apart s w ws no_figures (none_yet ws) ts ∙ (λ i. here i ∷ more i)
