-- Pages, and the beginning of a text that its first h lines take, start and end at character boundaries (rule 10).
-- Assumes nothing.
use Rattle.std.specs.Prelude.{ℕ, zero, suc, ◌+◌, ◌*◌, ◌≡◌, true, List, [], ◌∷◌, length, drop}
use Rattle.std.proofs.Common.{sym, ap, arith}
use Rattle.std.proofs.Math.Seq.{take-length}
use Rattle.utf8.specs.Encoding.{size}
use Rattle.utf8.specs.Places.{boundary}
use Rattle.utf8.specs.Boundaries.{boundary-is}
use Rattle.meaning.specs.Layout.{layout}
use Rattle.meaning.specs.Pages.{end_before, taken_bytes}
use Rattle.meaning.specs.declared.settings.Settings.{Settings}
use Rattle.meaning.specs.declared.line.Entry.{Entry}
use Rattle.laws.specs.CharsBefore.{layout_boundaries}
use Rattle.laws.specs.PageLaws.{PageSaid}
use Rattle.laws.specs.RowInduction.{Each}
use Rattle.laws.specs.WellFormedLayout.{layout-length}

-- What holds of the text's end and of where each line starts holds of where the first lines end.
ends_at : (P : ℕ → Type 0) (n j : ℕ) (es : List Entry) → P n → Each (λ (e : Entry). P e.start.0) es → P (end_before n (drop j es))
unfolding end_before
ends_at P n zero [] p h = p
ends_at P n zero (e ∷ es) p h = h.0
ends_at P n (suc j) [] p h = p
ends_at P n (suc j) (e ∷ es) p h = ends_at P n j es p h.1

module _ (s : Settings) (cs : List ℕ) where
  whole-boundary : boundary cs (size cs) ≡ true
  whole-boundary =
      (boundary-is cs (size cs)).1 (record { chars = length cs; within = omega arith; is = ap size (sym (take-length cs)) })

  before-boundary : (j : ℕ) → boundary cs (end_before (size cs) (drop j (layout s cs))) ≡ true
  before-boundary j = ends_at (λ (i : ℕ). boundary cs i ≡ true) (size cs) j (layout s cs) whole-boundary (layout_boundaries s cs)

  pub taken-boundary : (h : ℕ) → boundary cs (taken_bytes s h cs) ≡ true
  unfolding taken_bytes
  taken-boundary h = before-boundary h

  pub page_boundaries : (h i : ℕ) (p : PageSaid h i (layout s cs))
      → (boundary cs p.page.start.0 ≡ true) × (boundary cs p.page.end.0 ≡ true)
  unfolding end_before
  page_boundaries h i p = (
    rw p.start (rw p.lines at (before-boundary (i * h))),
    rw (p.end, layout-length s cs) (before-boundary (i * h + h)),
  )
