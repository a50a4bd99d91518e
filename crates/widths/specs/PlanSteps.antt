-- A plan for a text without tabs that is not justified goes glyph by glyph: what does not fit in a width does not fit in one that has no
-- glyph more, and what does not fit in a box that holds its longest part, or centred two of those, fits in none that is wider. The
-- planned width is whole glyphs (rule 10).
-- Assumes nothing.
use Rattle.std.specs.Prelude.{ℕ, suc, ◌+◌, ◌-◌, ◌*◌, ◌/◌, ◌≤◌, ◌<◌, ◌≡◌, false, List, None, Ok, Some}
use Rattle.std.proofs.Common.{sym, ◌∙◌, div-mul-le_self, div-lt_iff_lt-mul, le-div_iff_mul-le, arith}
use Rattle.std.proofs.lemmas.Bool.{false≢true}
use Rattle.basis.specs.Order.{by_lt}
use Rattle.meaning.specs.Columns.{fits_whole, with_width, narrowest_from, narrowest}
use Rattle.meaning.specs.declared.settings.Settings.{Settings}
use Rattle.widths.specs.TabFree.{has_tab}
use Rattle.widths.specs.NarrowestWidth.{NoneFits, none-answered, narrowest-on, width-says}
use Rattle.widths.specs.WidthSteps.{fits-by_steps, fits_in-glyphs}
use Rattle.widths.specs.WideEnough.{enough_for, fits-wide-enough}

-- A number from k times g on and below one time more has k in it.
in_step : (g k v : ℕ) → 1 ≤ g → k * g ≤ v → v < suc k * g → v / g ≡ k
in_step g k v some low high =
    let l : k ≤ v / g = (le-div_iff_mul-le some).1 low in
    let u : v / g < suc k = (div-lt_iff_lt-mul some).1 high in
    omega (arith, l, u)

module _ (s : Settings) (h : ℕ) (cs : List ℕ) (aligned : s.alignment ≤ 2) (some : 1 ≤ s.glyph.0) (free : has_tab cs ≡ false) where
  abbrev g : ℕ
  g = s.glyph.0

  -- From k glyphs up to one more nothing changes.
  pub step-none : (k : ℕ) → fits_whole (with_width s (k * g)) h cs ≡ false → NoneFits s h cs (k * g) (suc k * g)
  step-none k e v low high =
      let one : k * g < suc k * g = omega arith in
      fits-by_steps s cs aligned some free v (k * g) h (in_step g k v some low high ∙ sym (in_step g k (k * g) some (omega arith) one)) ∙ e

  -- So a search of the widths up to a bound goes on there.
  pub step-on : (k bound : ℕ) → fits_whole (with_width s (k * g)) h cs ≡ false
      → narrowest_from s h cs (k * g) (bound - k * g) ≡ narrowest_from s h cs (suc k * g) (bound - suc k * g)
  step-on k bound e = narrowest-on s h cs (k * g) (suc k * g) bound (omega arith) (step-none k e)

  -- And ends where the longest part has its room.
  pub wide-none : (w to : ℕ) → enough_for s cs ≤ w → fits_whole (with_width s w) h cs ≡ false → NoneFits s h cs w to
  wide-none w to enough e v low high = fits-wide-enough s cs some free aligned v w h (omega arith) enough ∙ e

  pub wide-ends : (w n : ℕ) → enough_for s cs ≤ w → fits_whole (with_width s w) h cs ≡ false → narrowest_from s h cs w n ≡ None
  wide-ends w n enough e = none-answered s h cs n w (wide-none w (w + n) enough e)

  pub planned_in_glyphs : (w : ℕ) → narrowest s h cs ≡ Some w → w ≡ w / g * g
  planned_in_glyphs w e =
      let f = width-says s h cs w e in
      by_lt (w / g * g) w (λ less. absurd (false≢true (sym (f.2 (w / g * g) less) ∙ sym (fits_in-glyphs s cs aligned some free w h) ∙ f.1)))
      (λ more. omega (arith, div-mul-le_self w g))
