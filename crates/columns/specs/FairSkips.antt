-- The widths that a search passes over lay the text as one does that was tried (rule 8, rule 10).
-- Assumes nothing.
use Rattle.std.specs.Prelude.{ℕ, ◌+◌, ◌-◌, ◌*◌, ◌/◌, ◌%◌, ◌≤◌, ◌<◌, ◌≡◌, false, List, eqb, leb}
use Rattle.std.proofs.Common.{sym, ap, ◌∙◌, inl, inr, le-div_iff_mul-le, add-mul, div-one, mod-lt, arith}
use Rattle.std.proofs.Math.Nat.{one-mul, div-add-mod'}
use borrow.Author.Tests.{eqb-true, leb-true}
use Rattle.basis.specs.Choice.{pick, pick_cases, by_test}
use Rattle.basis.specs.Order.{by_eq}
use Rattle.utf8.specs.Decoding.{decode_all}
use Rattle.meaning.specs.Columns.{fits_whole, with_width, widest_box}
use Rattle.meaning.specs.declared.settings.Settings.{Settings}
use Rattle.widths.specs.TabFree.{has_tab}
use Rattle.widths.specs.LineParts.{longest_part}
use Rattle.widths.specs.GlyphPlaces.{asked_glyphs, asked-most}
use Rattle.widths.specs.WidthSteps.{fits-by_steps}
use Rattle.widths.specs.WideEnough.{enough_for, fits-wide-enough}
use Rattle.widths.specs.WidestPart.{longest-wide}
use Rattle.widths.specs.StepLines.{AtSide, fits-by-tab_steps}
use Rattle.widths.specs.TabLines.{MayBeWider, fits_wider}
use Rattle.rows.specs.RowsFrom.{TextReady}
use Rattle.columns.specs.Tabs.{no_tab-read}
use Rattle.columns.specs.PartBytes.{widest-read}
use Rattle.columns.specs.Skipping.{widest_of, each_width, tab_step, tab_skips, glyph_skips, skips_of, SmallSkips}
use Rattle.columns.specs.declared.skipping.Skips.{Skips}

-- A width up to a bound in which a text fits exactly if it does in another.
pub record Instead (s : Settings) (cs : List ℕ) (bound v : ℕ) : Type 0 where
  pub width : ℕ
  pub low : width ≤ bound
  pub same : (h : ℕ) → fits_whole (with_width s width) h cs ≡ fits_whole (with_width s v) h cs

-- Widths of as many whole steps, and of one at least, lay a text alike, and for each beyond what is enough there is one up to it that does.
pub record SkipsFairly (s : Settings) (cs : List ℕ) (k : Skips) : Type 0 where
  pub small : SmallSkips k
  pub within : (w v h : ℕ) → k.step ≤ w → w / k.step ≡ v / k.step → fits_whole (with_width s w) h cs ≡ fits_whole (with_width s v) h cs
  pub beyond : (v : ℕ) → k.enough < v → v ≤ widest_box → Instead s cs k.enough v

module _ (s : Settings) (t : List ℕ) (r : TextReady s t) where
  abbrev cs : List ℕ
  cs = decode_all t

  abbrev some : 1 ≤ s.glyph.0
  some = r.settings.0

  -- Characters take no more room than bytes.
  narrower : widest_of s cs ≤ widest_of s t
  narrower = widest-read s.glyph.0 s.tab.0 t

  -- A step of one pixel.
  module _ (enough : ℕ) where
    single-within : (w v h : ℕ) → 1 ≤ w → w / 1 ≡ v / 1 → fits_whole (with_width s w) h cs ≡ fits_whole (with_width s v) h cs
    single-within w v h _ e = ap (λ (x : ℕ). fits_whole (with_width s x) h cs) (sym (div-one w) ∙ e ∙ div-one v)

    single-fair : ((v : ℕ) → enough < v → v ≤ widest_box → Instead s cs enough v) → SkipsFairly s cs (record { step = 1; enough = enough })
    single-fair f = record { small = (omega arith, omega arith); within = single-within; beyond = f }

  each-fair : SkipsFairly s cs each_width
  each-fair = single-fair widest_box (λ v a b. absurd (omega arith))

  -- ---- with tabs

  -- A box that holds the widest part, and one that is so much wider.
  wider : (w v d : ℕ) → widest_of s t ≤ w → w + d ≡ v → MayBeWider s d → (h : ℕ) → fits_whole (with_width s w) h cs ≡ fits_whole (with_width s v) h cs
  wider w v d holds is may h =
      fits_wider s w d some cs h may (omega (arith, narrower)) ∙ ap (λ (x : ℕ). fits_whole (with_width s x) h cs) is

  -- A step of a glyph where a tab is whole glyphs wide, and else of a pixel.
  side_fair : AtSide s → (enough : ℕ) → ((v : ℕ) → enough < v → v ≤ widest_box → Instead s cs enough v)
      → SkipsFairly s cs (record { step = tab_step s; enough = enough })
  unfolding tab_step
  side_fair side enough f =
      let g = s.glyph.0 in
      let over = s.tab.0 % g in
      pick_cases (λ n. SkipsFairly s cs (record { step = n; enough = enough })) (eqb over 0)
      (λ e.
      let is : s.tab.0 ≡ s.tab.0 / g * g = omega (arith, div-add-mod' s.tab.0 g, eqb-true over 0 e) in
      record {
        small = (some, r.settings.1);
        within = λ w v h low d.
            fits-by-tab_steps s side some (record { count = s.tab.0 / g; is = is }) cs w v h d ((le-div_iff_mul-le some).1 (omega (arith, one-mul g)));
        beyond = f;
      })
      (λ _. single-fair enough f)

  left-fair : s.alignment ≡ 0 → SkipsFairly s cs (record { step = tab_step s; enough = widest_of s t })
  left-fair e =
      side_fair (inl e) (widest_of s t)
      (λ v a b. record { width = widest_of s t; low = omega arith; same = wider (widest_of s t) v (v - widest_of s t) (omega arith) (omega arith) (inl e) })

  -- By whole tabs from one of the first widths that are enough; by anything where a tab has no width.
  right_instead : s.alignment ≡ 2 → (v : ℕ) → widest_of s t + s.tab.0 < v → Instead s cs (widest_of s t + s.tab.0) v
  right_instead e v a =
      let widest = widest_of s t in
      let tab = s.tab.0 in
      by_eq tab 0
      (λ z. record { width = widest; low = omega arith; same = wider widest v (v - widest) (omega arith) (omega arith) (inr (e, inl z)) })
      (λ d.
      let over = v - widest in
      let parts = div-add-mod' over tab in
      let less : over % tab < tab = mod-lt over (omega arith) in
      record {
        width = widest + over % tab;
        low = omega (arith, less);
        same =
            wider (widest + over % tab) v (over / tab * tab) (omega arith) (omega (arith, parts))
            (inr (e, inr (record { count = over / tab; is = λ i. over / tab * tab })));
      })

  right-fair : s.alignment ≡ 2 → SkipsFairly s cs (record { step = tab_step s; enough = widest_of s t + s.tab.0 })
  right-fair e = side_fair (inr e) (widest_of s t + s.tab.0) (λ v a b. right_instead e v a)

  tab-fair : SkipsFairly s cs (tab_skips s (widest_of s t))
  unfolding tab_skips
  tab-fair =
      let P = SkipsFairly s cs in
      pick_cases P (eqb s.alignment 0) (λ e. left-fair (eqb-true s.alignment 0 e)) λ _.
      pick_cases P (eqb s.alignment 2) (λ e. right-fair (eqb-true s.alignment 2 e)) (λ _. each-fair)

  -- ---- without

  asked_times : (n g : ℕ) → asked_glyphs s.alignment n * g ≡ asked_glyphs s.alignment (n * g)
  unfolding asked_glyphs pick
  asked_times n g = by_test (eqb s.alignment 1) (λ e. rw e (add-mul n n g)) (λ e. rw e)

  -- Its widest part asks for as much as its longest one, or more.
  enough-wide : enough_for s cs ≤ asked_glyphs s.alignment (widest_of s t)
  enough-wide =
      let wide = longest-wide s.glyph.0 s.tab.0 cs in
      omega (arith, asked_times (longest_part cs) s.glyph.0, asked-most s.alignment (longest_part cs * s.glyph.0) (widest_of s t) (omega (arith, wide, narrower)))

  glyphs-fair : s.alignment ≤ 2 → has_tab t ≡ false → SkipsFairly s cs (glyph_skips s (widest_of s t))
  unfolding glyph_skips
  glyphs-fair aligned none =
      let free = no_tab-read t none in
      let enough = asked_glyphs s.alignment (widest_of s t) in
      record {
        small = (some, r.settings.1);
        within = λ w v h _ e. fits-by_steps s cs aligned some free w v h e;
        beyond = λ v a b. record {
          width = enough;
          low = omega arith;
          same = λ h. fits-wide-enough s cs some free aligned enough v h enough-wide (omega (arith, enough-wide));
        };
      }

  pub skips_fairly : SkipsFairly s cs (skips_of s t)
  unfolding skips_of
  skips_fairly =
      let P = SkipsFairly s cs in
      pick_cases P (leb s.alignment 2)
      (λ e. pick_cases P (has_tab t) (λ _. tab-fair) (λ none. glyphs-fair (leb-true s.alignment 2 e) none)) (λ _. each-fair)
