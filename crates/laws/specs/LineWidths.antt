-- The measured width of a line is never above the box, whatever the settings, the rest and the text; so the room that rule 6 goes by
-- is the box less that width, and nothing is cut off at 0. Rule 6, rule 10.
-- Assumes nothing.
use Rattle.std.specs.Prelude.{ℕ, ◌+◌, ◌-◌, ◌≤◌, ◌≡◌, List}
use Rattle.std.proofs.Math.Path.{refl}
use Rattle.std.proofs.Common.{inl, arith}
use Rattle.basis.specs.Choice.{pick_cases}
use Rattle.meaning.specs.Tokens.{Tok}
use Rattle.meaning.specs.Alignment.{plain_spaces}
use Rattle.meaning.specs.LineIter.{Held, process}
use Rattle.meaning.specs.Line.{unmeasured, measured, line_tokens, start_place, measuring, line_of, lay_line, entry_at}
use Rattle.meaning.specs.Layout.{layout}
use Rattle.meaning.specs.declared.settings.Settings.{Settings}
use Rattle.meaning.specs.declared.cursor.Spaces.{Spaces}
use Rattle.meaning.specs.declared.line.Entry.{Entry}
use Rattle.meaning.specs.declared.line.Measure.{Measure}
use Rattle.laws.specs.Measuring.{measured-behind}
use Rattle.laws.specs.RowInduction.{Each, each_line}
use Rattle.laws.specs.Pens.{pen_after, measured-pen, Plain}
use Rattle.laws.specs.PenBounds.{Within, pass-inside}

-- Each of these lines is at most so wide.
abbrev pub NoneWider : ℕ → List Entry → Type 0
NoneWider n = Each (λ (e : Entry). e.width.0 ≤ n)

module _ (s : Settings) where
  pub plain-spaces : Plain s.glyph.0 (plain_spaces s)
  unfolding plain_spaces
  plain-spaces = record { width = refl; extra = refl }

  -- Where a pass starts, pen and cursor are one.
  pub starts-within : (left : ℕ) (sp : Spaces) → left ≤ s.width.0 → Within s (start_place s left sp) left
  unfolding start_place
  starts-within left sp h = record { pen-by = omega arith; cursor_by = h; box = refl }

  measuring-inside : (ts : List Tok) → pen_after 0 (measuring s ts).drawn ≤ s.width.0
  unfolding measuring start_place
  measuring-inside ts =
      pass-inside s ts (start_place s 0 (plain_spaces s)) 0 0 (starts-within 0 (plain_spaces s) (omega arith)) (inl plain-spaces)

  pub line-width : (h : Held) (cs : List ℕ) → (lay_line s h cs).width ≤ s.width.0
  unfolding lay_line line_of
  line-width h cs =
      let ds = (measuring s (line_tokens h cs)).drawn in
      let m = measured unmeasured ds in
      omega (arith, (measured-behind unmeasured ds (omega arith)).0, measured-pen unmeasured ds, measuring-inside (line_tokens h cs))

  -- Room and width are the box.
  pub line-room : (h : Held) (cs : List ℕ) → (lay_line s h cs).width + (s.width.0 - (lay_line s h cs).width) ≡ s.width.0
  line-room h cs = omega (arith, line-width h cs)

  -- So of every line of a layout.
  pub layout-width : (cs : List ℕ) → NoneWider s.width.0 (layout s cs)
  unfolding entry_at
  layout-width = each_line s (λ (e : Entry). e.width.0 ≤ s.width.0) (λ start before h cs. line-width h cs)
