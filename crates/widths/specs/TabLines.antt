-- In a box with room for the widest part of a text every line is measured alike, tabs or not. So left aligned it may be any wider, and right
-- aligned wider by whole tabs: no line changes but for where it begins (rule 4, rule 6, rule 10).
-- Assumes nothing.
use Rattle.std.specs.Prelude.{ℕ, ◌+◌, ◌-◌, ◌≤◌, ◌≡◌, refl, ◌⊎◌, List, map}
use Rattle.std.proofs.Math.Path.{sym, ap}
use Rattle.std.proofs.Common.{◌∙◌, inl, inr}
use native.Mathlib.Omega.{arith}
use Rattle.basis.specs.Choice.{pick}
use Rattle.meaning.specs.Tokens.{Tok}
use Rattle.meaning.specs.Alignment.{plain_spaces}
use Rattle.meaning.specs.LineIter.{Held, Ran, process}
use Rattle.meaning.specs.Line.{line_tokens, start_place, measuring, line_of, lay_line}
use Rattle.meaning.specs.Layout.{layout}
use Rattle.meaning.specs.Columns.{fits_whole, with_width}
use Rattle.meaning.specs.declared.settings.Settings.{Settings}
use Rattle.laws.specs.LineWidths.{plain-spaces, line-width}
use Rattle.widths.specs.PartTokens.{HeldFirst}
use Rattle.widths.specs.TabStops.{SameStops}
use Rattle.widths.specs.FurtherOn.{pass-further}
use Rattle.widths.specs.RoomyBoxes.{end_of, pass-roomy}
use Rattle.widths.specs.WidestPart.{widest_part, widest-rest, line-end}
use Rattle.widths.specs.GlyphPlaces.{left_of}
use Rattle.widths.specs.LinesAlike.{unplaced_line, unplaced, measured_width, passes-alike, lines-alike}
use Rattle.widths.specs.WidthSteps.{fits-by-lines}

-- So much may be added to a box that holds the widest part: anything left aligned, and whole tabs right aligned.
abbrev pub MayBeWider : Settings → (d : ℕ) → Type 0
MayBeWider s d = (s.alignment ≡ 0) ⊎ ((s.alignment ≡ 2) × SameStops s.tab.0 d)

aligned : (s : Settings) (d : ℕ) → MayBeWider s d → s.alignment ≤ 2
aligned s d (inl e) = omega arith
aligned s d (inr e) = omega (arith, e.0)

-- The pass that draws from so far from the box's left.
abbrev drawn : Settings → List Tok → (left : ℕ) → Ran
drawn s ts left = process s (start_place s left (plain_spaces s)) 0 ts

module _ (s : Settings) (w d : ℕ) (some : 1 ≤ s.glyph.0) where
  abbrev g : ℕ
  g = s.glyph.0

  abbrev a : Settings
  a = with_width s w

  abbrev b : Settings
  b = with_width s (w + d)

  -- A pass from the left of both boxes.
  from-left : (ts : List Tok) → end_of g s.tab.0 0 ts ≤ w
      → process a (start_place a 0 (plain_spaces a)) 0 ts ≡ process b (start_place b 0 (plain_spaces b)) 0 ts
  unfolding start_place plain_spaces with_width
  from-left ts room =
      pass-roomy s w (w + d) some ts (start_place a 0 (plain_spaces a)) (start_place b 0 (plain_spaces b)).cursor 0 (plain-spaces s)
      (record { position = refl; start = refl; tab = refl; here = room; there = omega arith })

  -- A pass from as far before the right of both.
  from-right : (i : ℕ) (ts : List Tok) → SameStops s.tab.0 d
      → process a (start_place a i (plain_spaces a)) 0 ts ≡ process b (start_place b (i + d) (plain_spaces b)) 0 ts
  unfolding start_place plain_spaces with_width
  from-right i ts stops =
      pass-further s w (w + d) some d ts (start_place a i (plain_spaces a)) (start_place b (i + d) (plain_spaces b)).cursor 0 (plain-spaces s)
      (record { box = refl; position = refl; start = refl; tab = refl; stops = stops })

  measured-alike : (ts : List Tok) → end_of g s.tab.0 0 ts ≤ w → measuring a ts ≡ measuring b ts
  unfolding measuring
  measured-alike ts room = from-left ts room

  -- The second passes, after a measure of the same width.
  draws-alike : (ts : List Tok) → end_of g s.tab.0 0 ts ≤ w → MayBeWider s d → (m : ℕ) → m ≤ w →
      let i = left_of s.alignment (w - m) in
      let j = left_of s.alignment (w + d - m) in
      process a (start_place a i (plain_spaces a)) 0 ts ≡ process b (start_place b j (plain_spaces b)) 0 ts
  unfolding left_of pick
  draws-alike ts room (inl e) m inside =
      let i : left_of s.alignment (w - m) ≡ 0 = ap (λ (k : ℕ). left_of k (w - m)) e in
      let j : left_of s.alignment (w + d - m) ≡ 0 = ap (λ (k : ℕ). left_of k (w + d - m)) e in
      ap (drawn a ts) i ∙ from-left ts room ∙ sym (ap (drawn b ts) j)
  draws-alike ts room (inr e) m inside =
      let i : left_of s.alignment (w - m) ≡ w - m = ap (λ (k : ℕ). left_of k (w - m)) e.0 in
      let j : left_of s.alignment (w + d - m) ≡ w + d - m = ap (λ (k : ℕ). left_of k (w + d - m)) e.0 in
      let there : w - m + d ≡ w + d - m = omega arith in
      ap (drawn a ts) i ∙ from-right (w - m) ts e.1 ∙ ap (drawn b ts) (there ∙ sym j)

  line-alike : MayBeWider s d → (h : Held) (cs : List ℕ) → HeldFirst h cs → widest_part g s.tab.0 cs ≤ w
      → unplaced_line (lay_line a h cs) ≡ unplaced_line (lay_line b h cs)
  unfolding lay_line line_of with_width
  line-alike wider h cs f holds =
      let ts = line_tokens h cs in
      let room : end_of g s.tab.0 0 ts ≤ w = omega (arith, line-end g s.tab.0 h cs f) in
      passes-alike s w (w + d) (aligned s d wider) ts (measured-alike ts room)
      (draws-alike ts room wider (measured_width (measuring a ts)) (line-width a h cs))

  -- A text of which the box holds the widest part.
  pub lines-wider : (cs : List ℕ) → MayBeWider s d → widest_part g s.tab.0 cs ≤ w → map unplaced (layout a cs) ≡ map unplaced (layout b cs)
  lines-wider cs wider holds =
      lines-alike a b (λ cs. widest_part g s.tab.0 cs ≤ w) (λ k cs c. omega (arith, widest-rest g s.tab.0 k cs)) (line-alike wider) cs holds

  pub fits_wider : (cs : List ℕ) (h : ℕ) → MayBeWider s d → widest_part g s.tab.0 cs ≤ w → fits_whole a h cs ≡ fits_whole b h cs
  fits_wider cs h wider holds = fits-by-lines a b h cs (lines-wider cs wider holds)
