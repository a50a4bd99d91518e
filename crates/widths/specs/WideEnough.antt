-- Without tabs, and not justified, a box that has a glyph's room for each character of a text's longest part, or centred for two, may be any
-- wider: no line changes but for where it begins, and left aligned not even that (rule 6, rule 8, rule 10).
-- Assumes nothing.
use Rattle.std.specs.Prelude.{ℕ, ◌*◌, ◌/◌, ◌≤◌, ◌≡◌, false, List, map, length}
use Rattle.std.proofs.Common.{le-div_iff_mul-le, arith}
use Rattle.meaning.specs.Layout.{layout}
use Rattle.meaning.specs.Columns.{fits_whole, with_width}
use Rattle.meaning.specs.declared.settings.Settings.{Settings}
use Rattle.widths.specs.TabFree.{has_tab}
use Rattle.widths.specs.LineParts.{longest_part}
use Rattle.widths.specs.LinesAlike.{unplaced}
use Rattle.widths.specs.GlyphPlaces.{SameGlyphs, asked_glyphs}
use Rattle.widths.specs.GlyphLines.{lines_tell, glyphs_tell}
use Rattle.widths.specs.WidthSteps.{fits-by-lines}

-- Two widths in which so many glyphs fit are not told apart by them.
both_hold : (g w v n : ℕ) → 1 ≤ g → n * g ≤ w → n * g ≤ v → SameGlyphs g w v n
both_hold g w v n some h k =
    let x : n ≤ w / g = (le-div_iff_mul-le some).1 h in
    let y : n ≤ v / g = (le-div_iff_mul-le some).1 k in
    omega (arith, x, y)

-- The width from which on no other is needed.
abbrev pub enough_for : Settings → List ℕ → ℕ
enough_for s cs = asked_glyphs s.alignment (longest_part cs) * s.glyph.0

module _ (s : Settings) (cs : List ℕ) (some : 1 ≤ s.glyph.0) (free : has_tab cs ≡ false) where
  abbrev g : ℕ
  g = s.glyph.0

  module _ (aligned : s.alignment ≤ 2) where
    pub lines-enough : (w v : ℕ) → enough_for s cs ≤ w → enough_for s cs ≤ v
        → map unplaced (layout (with_width s w) cs) ≡ map unplaced (layout (with_width s v) cs)
    lines-enough w v h k = lines_tell s w v aligned some cs free (both_hold g w v (asked_glyphs s.alignment (longest_part cs)) some h k)

    pub fits-wide-enough : (w v h : ℕ) → enough_for s cs ≤ w → enough_for s cs ≤ v → fits_whole (with_width s w) h cs ≡ fits_whole (with_width s v) h cs
    fits-wide-enough w v h k l = fits-by-lines (with_width s w) (with_width s v) h cs (lines-enough w v k l)

  pub wide_enough : s.alignment ≡ 0 → (w v : ℕ) → length cs * g ≤ w → length cs * g ≤ v → layout (with_width s w) cs ≡ layout (with_width s v) cs
  wide_enough left w v h k = glyphs_tell s w v left some cs free (both_hold g w v (length cs) some h k)
