-- Where tabs are whole glyphs wide, and left or right aligned, a box of a glyph or more counts by the glyphs that go into it: what is left over
-- beside them changes no line but for where it begins (rule 4, rule 6, rule 10).
-- Assumes nothing.
use Rattle.std.specs.Prelude.{ℕ, ◌+◌, ◌-◌, ◌*◌, ◌/◌, ◌%◌, ◌≤◌, ◌<◌, ◌≡◌, ◌⊎◌, List, map}
use Rattle.std.proofs.Math.Path.{refl, subst}
use Rattle.std.proofs.Common.{sym, ap, ◌∙◌, div-add-mod', mod-lt, mul-le-mul_right, one-mul, arith}
use Rattle.std.proofs.Math.Logic.{inl, inr}
use Rattle.basis.specs.Choice.{pick}
use Rattle.meaning.specs.Tokens.{Tok}
use Rattle.meaning.specs.Alignment.{plain_spaces}
use Rattle.meaning.specs.LineIter.{Held, Ran, process}
use Rattle.meaning.specs.Line.{line_tokens, start_place, measuring, line_of, lay_line}
use Rattle.meaning.specs.Layout.{layout}
use Rattle.meaning.specs.Columns.{fits_whole, with_width}
use Rattle.meaning.specs.declared.settings.Settings.{Settings}
use Rattle.meaning.specs.declared.cursor.LineCursor.{LineCursor}
use Rattle.laws.specs.Spell.{Sound}
use Rattle.laws.specs.LineWidths.{plain-spaces, line-width}
use Rattle.widths.specs.PartTokens.{HeldFirst, first-sound}
use Rattle.widths.specs.Wholes.{Whole, no_glyph, fewer-glyphs, many-glyphs}
use Rattle.widths.specs.WholeGlyphs.{measured-whole}
use Rattle.widths.specs.TwinPasses.{EndAlike, pass-alike}
use Rattle.widths.specs.SteppedBoxes.{Stepped, stepped_twins}
use Rattle.widths.specs.SteppedMeasures.{SamePrinted, printed-width, Measured, measured_twins, measured-draws}
use Rattle.widths.specs.GlyphPlaces.{left_of}
use Rattle.widths.specs.LinesAlike.{unplaced_line, unplaced, AnyDrawn, measured_width, passes-told, lines-alike}
use Rattle.widths.specs.WidthSteps.{fits-by-lines}

-- Left or right aligned.
abbrev pub AtSide : Settings → Type 0
AtSide s = (s.alignment ≡ 0) ⊎ (s.alignment ≡ 2)

at_side : (s : Settings) → AtSide s → s.alignment ≤ 2
at_side s (inl e) = omega arith
at_side s (inr e) = omega arith

-- A box of whole glyphs, and one with less than a glyph beside them.
module _ (s : Settings) (v r : ℕ) (some : 1 ≤ s.glyph.0) (small : r < s.glyph.0) (whole : Whole s.glyph.0 v) (holds : 0 < v)
    (tabs : Whole s.glyph.0 s.tab.0) where
  abbrev g : ℕ
  g = s.glyph.0

  abbrev w : ℕ
  w = v + r

  abbrev a : Settings
  a = with_width s w

  abbrev b : Settings
  b = with_width s v

  abbrev from : (t : Settings) → (left : ℕ) → LineCursor
  from t left = (start_place t left (plain_spaces t)).cursor

  -- Both begin at the left, or as far before the right.
  left-stepped : Stepped g r (from a 0) (from b 0)
  unfolding start_place with_width
  left-stepped =
      record {
        box = refl;
        whole-box = whole;
        tab = refl;
        whole-tab = tabs;
        whole = no_glyph g;
        place = inr (refl, holds);
        low_x = omega arith;
        low-y = omega arith;
        still = (λ e. e, λ e. e);
      }

  right-stepped : (m : ℕ) → Whole g m → m ≤ v → Stepped g r (from a (w - m)) (from b (v - m))
  unfolding start_place with_width
  right-stepped m k inside =
      record {
        box = refl;
        whole-box = whole;
        tab = refl;
        whole-tab = tabs;
        whole = fewer-glyphs g v m whole k;
        place = inl (omega arith);
        low_x = omega arith;
        low-y = omega arith;
        still = (λ e. refl, λ e. refl);
      }

  -- ---- one line

  abbrev pass : (t : Settings) → List Tok → (left : ℕ) → Ran
  pass t ts left = process t (start_place t left (plain_spaces t)) 0 ts

  measured-alike : (ts : List Tok) → Sound ts → EndAlike SamePrinted (measuring a ts) (measuring b ts)
  unfolding measuring start_place plain_spaces with_width
  measured-alike ts sound =
      pass-alike s w v some (Measured g r) (measured_twins g r some small) SamePrinted (measured-draws s w v r some small) ts
      (start_place a 0 (plain_spaces a)) (from b 0) 0 (plain-spaces s) (record { sound = sound; stepped = left-stepped; place = inl refl })

  drawn-alike : (ts : List Tok) (i j : ℕ) → Stepped g r (from a i) (from b j) → EndAlike AnyDrawn (pass a ts i) (pass b ts j)
  unfolding start_place plain_spaces with_width
  drawn-alike ts i j f =
      pass-alike s w v some (λ ts x y. Stepped g r x y) (stepped_twins g r some small) AnyDrawn
      (record { same = λ ds. tt; on = λ ds es fs e. tt; tabbed = λ ts x y m e k from to es fs d. tt; edged = λ ts p y m e from to at d. tt }) ts
      (start_place a i (plain_spaces a)) (from b j) 0 (plain-spaces s) f

  draws-alike : AtSide s → (ts : List Tok) (m : ℕ) → Whole g m → m ≤ v
      → EndAlike AnyDrawn (pass a ts (left_of s.alignment (w - m))) (pass b ts (left_of s.alignment (v - m)))
  unfolding left_of pick
  draws-alike (inl e) ts m k inside =
      subst (λ (al : ℕ). EndAlike AnyDrawn (pass a ts (left_of al (w - m))) (pass b ts (left_of al (v - m)))) (sym e) (drawn-alike ts 0 0 left-stepped)
  draws-alike (inr e) ts m k inside =
      subst (λ (al : ℕ). EndAlike AnyDrawn (pass a ts (left_of al (w - m))) (pass b ts (left_of al (v - m)))) (sym e)
      (drawn-alike ts (w - m) (v - m) (right-stepped m k inside))

  measured_in_glyphs : (ts : List Tok) → Whole g (measured_width (measuring b ts))
  unfolding measuring with_width start_place plain_spaces
  measured_in_glyphs ts =
      measured-whole b ts (start_place b 0 (plain_spaces b)) 0 (inr (record { position = no_glyph g; box = whole; tab = tabs })) (plain-spaces b)

  line-alike : AtSide s → (h : Held) (cs : List ℕ) → HeldFirst h cs → unplaced_line (lay_line a h cs) ≡ unplaced_line (lay_line b h cs)
  unfolding lay_line line_of with_width
  line-alike side h cs f =
      let ts = line_tokens h cs in
      let m = measured-alike ts (first-sound h cs f) in
      let wide : measured_width (measuring a ts) ≡ measured_width (measuring b ts) = printed-width _ _ m.drawn in
      passes-told s w v (at_side s side) ts wide m.reach
      (draws-alike side ts (measured_width (measuring a ts)) (subst (Whole g) (sym wide) (measured_in_glyphs ts)) (omega (arith, wide, line-width b h cs)))

  lines-stepped : AtSide s → (cs : List ℕ) → map unplaced (layout a cs) ≡ map unplaced (layout b cs)
  lines-stepped side cs = lines-alike a b (λ cs. Unit {0}) (λ k cs c. tt) (λ h cs f c. line-alike side h cs f) cs tt

-- ---- widths of as many glyphs

module _ (s : Settings) (side : AtSide s) (some : 1 ≤ s.glyph.0) (tabs : Whole s.glyph.0 s.tab.0) (cs : List ℕ) where
  -- Of a width of a glyph or more only its whole glyphs count.
  pub lines_in-glyphs : (w : ℕ) → 1 ≤ w / s.glyph.0
      → map unplaced (layout (with_width s w) cs) ≡ map unplaced (layout (with_width s (w / s.glyph.0 * s.glyph.0)) cs)
  lines_in-glyphs w one =
      let g = s.glyph.0 in
      let v = w / g * g in
      let is : v + w % g ≡ w = div-add-mod' w g in
      let holds : 1 * g ≤ v = mul-le-mul_right g one in
      subst (λ (x : ℕ). map unplaced (layout (with_width s x) cs) ≡ map unplaced (layout (with_width s v) cs)) is
      (lines-stepped s v (w % g) some (mod-lt w some) (many-glyphs g (w / g)) (omega (arith, holds, one-mul g)) tabs side cs)

  pub fits-by-tab_steps : (w v h : ℕ) → w / s.glyph.0 ≡ v / s.glyph.0 → 1 ≤ w / s.glyph.0
      → fits_whole (with_width s w) h cs ≡ fits_whole (with_width s v) h cs
  fits-by-tab_steps w v h e one =
      let g = s.glyph.0 in
      fits-by-lines (with_width s w) (with_width s v) h cs
      (lines_in-glyphs w one
      ∙ ap (λ (n : ℕ). map unplaced (layout (with_width s (n * g)) cs)) e
      ∙ sym (lines_in-glyphs v (omega (arith, e))))
