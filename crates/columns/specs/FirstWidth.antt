-- Where a search of widths may begin: in each narrower box the text fills as many lines as there may be, or more (rule 8, rule 10).
-- Assumes nothing.
use Rattle.std.specs.Prelude.{ℕ, suc, ◌+◌, ◌*◌, ◌/◌, ◌≤◌, ◌<◌, ◌≡◌, false, List, Ok}
use Rattle.std.proofs.Common.{ap, div-mul-le_self, mul-div_cancel, arith}
use Rattle.utf8.specs.Decoding.{decode_all}
use Rattle.meaning.specs.Checks.{check_utf8}
use Rattle.meaning.specs.Columns.{fits_whole, with_width, widest_box}
use Rattle.meaning.specs.declared.settings.Settings.{Settings}
use Rattle.columns.specs.Filling.{empty_line, under_self, fill_under}
use Rattle.columns.specs.LeadBytes.{leads, leads_fill}
use Rattle.columns.specs.LinesFilled.{filled_none}
use Rattle.columns.specs.FillTurns.{lines_filled}
use Rattle.columns.specs.Skipping.{SmallSkips, Whole}
use Rattle.columns.specs.declared.skipping.Skips.{Skips}

-- No width below this one does.
abbrev pub NoneBelow : Settings → (h : ℕ) → List ℕ → (w : ℕ) → Type 0
NoneBelow s h cs w = (v : ℕ) → v < w → fits_whole (with_width s v) h cs ≡ false

-- A box in which the text fills h lines is too narrow, and so is each narrower one.
pub filled-below : (s : Settings) (t : List ℕ) (h w : ℕ) → 1 ≤ s.glyph.0 → check_utf8 t ≡ Ok tt → h ≤ lines_filled s.glyph.0 s.tab.0 w t
    → NoneBelow s h (decode_all t) (w + 1)
unfolding with_width
filled-below s t h w some good many v less =
    let g = s.glyph.0 in
    let tab = s.tab.0 in
    let narrower = (fill_under g tab some v w (omega arith) leads t (empty_line 0) (empty_line 0) (under_self v (empty_line 0))).lines in
    filled_none (with_width s v) h (decode_all t) some (omega (arith, many, narrower, leads_fill g tab v some t good))

-- A search may begin here: with whole steps, unless it is past all widths.
pub record Begins (s : Settings) (h : ℕ) (cs : List ℕ) (k : Skips) (w : ℕ) : Type 0 where
  pub low : w ≤ suc widest_box
  pub whole : w ≤ widest_box → Whole k w
  pub none : NoneBelow s h cs w

module _ (s : Settings) (h : ℕ) (cs : List ℕ) (k : Skips) (w : ℕ) (below : NoneBelow s h cs w) where
  pub begins-past : w ≤ suc widest_box → widest_box < w → Begins s h cs k w
  begins-past low past = record { low = low; whole = λ p. absurd (omega arith); none = below }

  pub begins-whole : SmallSkips k → w ≤ widest_box → Begins s h cs k (w / k.step * k.step)
  begins-whole small low =
      let under = div-mul-le_self w k.step in
      record {
        low = omega (arith, under);
        whole = λ _. ap (λ (n : ℕ). n * k.step) (mul-div_cancel (w / k.step) small.0);
        none = λ v less. below v (omega (arith, under, less));
      }
