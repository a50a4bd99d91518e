-- Without tabs, and not justified, a text has the same lines, but for where they begin, in two boxes that the glyphs of its longest part do
-- not tell apart: those that hold the same count of glyphs, or in both of which as many fit as the part has characters. Left aligned the
-- lines are the same (rule 10).
-- Assumes nothing.
use Rattle.std.specs.Prelude.{ℕ, ◌-◌, ◌≤◌, ◌≡◌, refl, false, length, drop}
use Rattle.std.proofs.Common.{ap, ◌∙◌, inl, arith}
use Rattle.std.proofs.Math.Path.{sym, subst}
use mathlib.Core.List.{List, [], ◌∷◌, map}
use Rattle.std.proofs.Math.Nat.{zero-mul}
use Rattle.basis.specs.Choice.{pick}
use Rattle.meaning.specs.Tokens.{Tok}
use Rattle.meaning.specs.Cursor.{room_of}
use Rattle.meaning.specs.Alignment.{plain_spaces}
use Rattle.meaning.specs.LineIter.{Held, Ran, process}
use Rattle.meaning.specs.Line.{line_tokens, start_place, Line, measuring, line_of, lay_line, entry_at}
use Rattle.meaning.specs.Layout.{layout}
use Rattle.meaning.specs.Columns.{with_width}
use Rattle.meaning.specs.declared.settings.Settings.{Settings}
use Rattle.meaning.specs.declared.line.Entry.{Entry}
use Rattle.laws.specs.LineTokens.{line-tokens_cover}
use Rattle.laws.specs.LineWidths.{plain-spaces, line-width}
use Rattle.laws.specs.RowInduction.{Each, each_line}
use Rattle.widths.specs.TabFree.{has_tab, TabFree, free-rest, free-line}
use Rattle.widths.specs.LineParts.{first_part, longest_part, first-longest, longest-within, longest-rest}
use Rattle.widths.specs.PartTokens.{line_in_parts, HeldFirst, first-sound}
use Rattle.widths.specs.LinesAlike.{unplaced_line, unplaced, measured_width, plain-line, passes-alike, lines-alike}
use Rattle.widths.specs.GlyphLooks.{most_glyphs, glyphs-part}
use Rattle.widths.specs.GlyphSteps.{pass-by-glyphs}
use Rattle.widths.specs.Wholes.{Whole}
use Rattle.widths.specs.WholeGlyphs.{measured-whole}
use Rattle.widths.specs.GlyphPlaces.{left_of, SameGlyphs, fewer-same, asked_glyphs, asked_least, asked-most, left-alike, rooms_alike}

-- ---- one line

module _ (s : Settings) (w v : ℕ) (aligned : s.alignment ≤ 2) (some : 1 ≤ s.glyph.0) where
  abbrev g : ℕ
  g = s.glyph.0

  abbrev a : Settings
  a = with_width s w

  abbrev b : Settings
  b = with_width s v

  -- Passes from two places behind which the same count of glyphs has room.
  starts-alike : (i j n : ℕ) (ts : List Tok) → TabFree ts → most_glyphs ts ≤ n → SameGlyphs g (w - i) (v - j) n
      → process a (start_place a i (plain_spaces a)) 0 ts ≡ process b (start_place b j (plain_spaces b)) 0 ts
  unfolding start_place plain_spaces with_width room_of
  starts-alike i j n ts free few e =
      pass-by-glyphs s w v some ts (start_place a i (plain_spaces a)) (start_place b j (plain_spaces b)).cursor 0 free (plain-spaces s)
      (record {
        glyphs = 0;
        here = omega (arith, zero-mul g);
        there = omega (arith, zero-mul g);
        alike = fewer-same g (w - i) (v - j) (most_glyphs ts) n few e;
      })

  -- What glyphs of a line with so many at most do not tell apart.
  abbrev Same : ℕ → Type 0
  Same n = SameGlyphs g w v (asked_glyphs s.alignment n)

  module _ (ts : List Tok) (n : ℕ) (free : TabFree ts) (few : most_glyphs ts ≤ n) (e : Same n) where
    measured-alike : measuring a ts ≡ measuring b ts
    unfolding measuring
    measured-alike =
        starts-alike 0 0 n ts free few
        (left-alike g w v n some (fewer-same g w v n (asked_glyphs s.alignment n) (asked_least s.alignment n) e))

    measured_in_glyphs : Whole g (measured_width (measuring a ts))
    unfolding measuring with_width start_place plain_spaces
    measured_in_glyphs = measured-whole a ts (start_place a 0 (plain_spaces a)) 0 (inl free) (plain-spaces a)

    -- The second passes, after the same measure.
    draws-alike : (m : ℕ) → Whole g m → m ≤ w → m ≤ v →
        let i = left_of s.alignment (w - m) in
        let j = left_of s.alignment (v - m) in
        process a (start_place a i (plain_spaces a)) 0 ts ≡ process b (start_place b j (plain_spaces b)) 0 ts
    draws-alike m whole x y =
        starts-alike (left_of s.alignment (w - m)) (left_of s.alignment (v - m)) n ts free few (rooms_alike g w v n some s.alignment m whole x y e)

    tokens-alike : measured_width (measuring a ts) ≤ w → measured_width (measuring b ts) ≤ v → unplaced_line (line_of a ts) ≡ unplaced_line (line_of b ts)
    tokens-alike x y =
        let m = measured_width (measuring a ts) in
        let z : m ≤ v = subst (λ (q : Ran). measured_width q ≤ v) (sym measured-alike) y in
        passes-alike s w v aligned ts measured-alike (draws-alike m measured_in_glyphs x z)

  line-alike : (h : Held) (cs : List ℕ) → HeldFirst h cs → has_tab cs ≡ false → Same (first_part cs)
      → unplaced_line (lay_line a h cs) ≡ unplaced_line (lay_line b h cs)
  unfolding lay_line line_of with_width
  line-alike h cs f free e =
      let ts = line_tokens h cs in
      let few : most_glyphs ts ≤ first_part cs =
      subst (λ (c : List ℕ). most_glyphs ts ≤ first_part c) (line-tokens_cover h cs) (glyphs-part ts (first-sound h cs f) (line_in_parts h cs f.0)) in
      tokens-alike ts (first_part cs) (free-line h cs free) few e (line-width a h cs) (line-width b h cs)

  -- ---- the lines of a text

  less-same : (m n : ℕ) → m ≤ n → Same n → Same m
  less-same m n h e = fewer-same g w v (asked_glyphs s.alignment m) (asked_glyphs s.alignment n) (asked-most s.alignment m n h) e

  pub lines_tell : (cs : List ℕ) → has_tab cs ≡ false → SameGlyphs g w v (asked_glyphs s.alignment (longest_part cs))
      → map unplaced (layout a cs) ≡ map unplaced (layout b cs)
  lines_tell cs free e =
      lines-alike a b (λ cs. (has_tab cs ≡ false) × Same (longest_part cs))
      (λ k cs c. (free-rest k cs c.0, less-same (longest_part (drop k cs)) (longest_part cs) (longest-rest k cs) c.1))
      (λ h cs f c. line-alike h cs f c.0 (less-same (first_part cs) (longest_part cs) (first-longest cs) c.1)) cs (free, e)

-- ---- left aligned

all-unplaced : (es : List Entry) → Each (λ (e : Entry). unplaced e ≡ e) es → map unplaced es ≡ es
all-unplaced [] f = refl
all-unplaced (e ∷ es) f = λ i. f.0 i ∷ all-unplaced es f.1 i

-- Every line begins at the box's left.
left-unplaced : (s : Settings) (cs : List ℕ) → s.alignment ≡ 0 → map unplaced (layout s cs) ≡ layout s cs
unfolding lay_line left_of pick entry_at
left-unplaced s cs left =
    all-unplaced (layout s cs)
    (each_line s (λ (e : Entry). unplaced e ≡ e)
    (λ start before h cs.
    let here : 0 ≡ (line_of s (line_tokens h cs)).placed.left.0 = sym (ap (λ (l : Line). l.placed.left.0) (plain-line s (line_tokens h cs) (omega arith)) ∙ rw left) in
    let e = entry_at start before h cs (lay_line s h cs) in
    λ i.
    record {
      start = e.start;
      rest = e.rest;
      ending = e.ending;
      left = record { 0 = here i };
      space = e.space;
      extra = e.extra;
      width = e.width;
      dropped = e.dropped;
      reach = e.reach;
      before = e.before;
    })
    cs)

module _ (s : Settings) (w v : ℕ) (left : s.alignment ≡ 0) (some : 1 ≤ s.glyph.0) where
  pub glyphs_tell : (cs : List ℕ) → has_tab cs ≡ false → SameGlyphs s.glyph.0 w v (length cs)
      → layout (with_width s w) cs ≡ layout (with_width s v) cs
  unfolding asked_glyphs pick with_width
  glyphs_tell cs free e =
      let same = fewer-same s.glyph.0 w v (longest_part cs) (length cs) (longest-within cs) e in
      sym (left-unplaced (with_width s w) cs left)
      ∙ lines_tell s w v (omega arith) some cs free (rw left same)
      ∙ left-unplaced (with_width s v) cs left
