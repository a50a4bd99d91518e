-- Without tabs, and not justified, a box width counts by the glyphs that go into it: what is left over beside them changes no line but for
-- where it begins, and left aligned not even that (rule 6, rule 8, rule 10).
-- Assumes nothing.
use Rattle.std.specs.Prelude.{ℕ, ◌*◌, ◌/◌, ◌≤◌, min, ◌≡◌, refl, Bool, false, ◌&&◌, List, [], ◌∷◌, map, leb, eqb, length}
use Rattle.std.proofs.Common.{sym, ap, ◌∙◌, mul-div_cancel}
use Rattle.std.proofs.lemmas.List.{length-map}
use Rattle.basis.specs.Choice.{pick}
use Rattle.meaning.specs.Layout.{layout}
use Rattle.meaning.specs.Pages.{within_lines}
use Rattle.meaning.specs.Columns.{all_kept, fits_whole, with_width}
use Rattle.meaning.specs.declared.settings.Settings.{Settings}
use Rattle.meaning.specs.declared.line.Entry.{Entry}
use Rattle.widths.specs.TabFree.{has_tab}
use Rattle.widths.specs.LineParts.{longest_part}
use Rattle.widths.specs.LinesAlike.{unplaced}
use Rattle.widths.specs.GlyphPlaces.{asked_glyphs}
use Rattle.widths.specs.GlyphLines.{lines_tell, glyphs_tell}

-- ---- whether a text fits whole

-- That is a matter of its lines, wherever they begin.
same_kept : (es : List Entry) → all_kept (map unplaced es) ≡ all_kept es
unfolding all_kept
same_kept [] = refl
same_kept (e ∷ es) = ap (λ (b : Bool). pick (eqb e.dropped.0 0) b false) (same_kept es)

fits-unplaced : (s : Settings) (h : ℕ) (cs : List ℕ) →
    let es = map unplaced (layout s cs) in
    fits_whole s h cs ≡ leb (length es) h && all_kept es
unfolding fits_whole within_lines
fits-unplaced s h cs = sym (λ i. leb (length-map (layout s cs) unplaced i) h && same_kept (layout s cs) i)

pub fits-by-lines : (s t : Settings) (h : ℕ) (cs : List ℕ) → map unplaced (layout s cs) ≡ map unplaced (layout t cs) → fits_whole s h cs ≡ fits_whole t h cs
fits-by-lines s t h cs e =
    fits-unplaced s h cs ∙ ap (λ (es : List Entry). leb (length es) h && all_kept es) e ∙ sym (fits-unplaced t h cs)

-- ---- widths of as many glyphs

-- Of any width only its whole glyphs count.
whole-glyphs : (g w : ℕ) → 1 ≤ g → w / g ≡ w / g * g / g
whole-glyphs g w some = sym (mul-div_cancel (w / g) some)

module _ (s : Settings) (cs : List ℕ) (aligned : s.alignment ≤ 2) (some : 1 ≤ s.glyph.0) (free : has_tab cs ≡ false) where
  abbrev g : ℕ
  g = s.glyph.0

  -- Two widths of as many.
  pub lines-by_steps : (w v : ℕ) → w / g ≡ v / g → map unplaced (layout (with_width s w) cs) ≡ map unplaced (layout (with_width s v) cs)
  lines-by_steps w v e = lines_tell s w v aligned some cs free (ap (λ (n : ℕ). min n (asked_glyphs s.alignment (longest_part cs))) e)

  pub fits-by_steps : (w v h : ℕ) → w / g ≡ v / g → fits_whole (with_width s w) h cs ≡ fits_whole (with_width s v) h cs
  fits-by_steps w v h e = fits-by-lines (with_width s w) (with_width s v) h cs (lines-by_steps w v e)

  pub fits_in-glyphs : (w h : ℕ) → fits_whole (with_width s w) h cs ≡ fits_whole (with_width s (w / g * g)) h cs
  fits_in-glyphs w h = fits-by_steps w (w / g * g) h (whole-glyphs g w some)

-- ---- left aligned

module _ (s : Settings) (cs : List ℕ) (left : s.alignment ≡ 0) (some : 1 ≤ s.glyph.0) (free : has_tab cs ≡ false) where
  pub same_steps : (w v : ℕ) → w / s.glyph.0 ≡ v / s.glyph.0 → layout (with_width s w) cs ≡ layout (with_width s v) cs
  same_steps w v e = glyphs_tell s w v left some cs free (ap (λ (n : ℕ). min n (length cs)) e)

  pub width_in_glyphs : (w : ℕ) → layout (with_width s w) cs ≡ layout (with_width s (w / s.glyph.0 * s.glyph.0)) cs
  width_in_glyphs w = same_steps w (w / s.glyph.0 * s.glyph.0) (whole-glyphs s.glyph.0 w some)
