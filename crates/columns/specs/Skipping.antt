-- Which widths a search passes over once it has tried one (rule 8, rule 10).
-- Assumes nothing.
use Rattle.std.specs.Prelude.{ℕ, suc, ◌+◌, ◌*◌, ◌/◌, ◌%◌, ◌≤◌, ◌<◌, ◌≡◌, true, false, List, eqb, leb, ltb}
use Rattle.std.proofs.Math.Path.{sym}
use Rattle.std.proofs.Common.{ap, ◌∙◌, one-mul, add-mul, le-div_iff_mul-le, div-lt_iff_lt-mul, arith, eq-eqb, ne_eqb, le-leb}
use Rattle.std.proofs.Math.Nat.{div_self, add-div_right}
use Rattle.std.proofs.lemmas.Bool.{lt-leb}
use Rattle.basis.specs.Choice.{pick, pick_cases, pick_true, pick-false}
use Rattle.meaning.specs.Columns.{widest_box}
use Rattle.meaning.specs.declared.settings.Settings.{Settings}
use Rattle.widths.specs.TabFree.{has_tab}
use Rattle.widths.specs.GlyphPlaces.{asked_glyphs}
use Rattle.widths.specs.WidestPart.{widest_part}
use Rattle.columns.specs.declared.skipping.Skips.{Skips}

-- ---- what is passed over

-- The room that the widest part of a text's bytes takes.
abbrev pub widest_of : Settings → (bytes : List ℕ) → ℕ
widest_of s t = widest_part s.glyph.0 s.tab.0 t

-- Each width is tried.
abbrev pub each_width : Skips
each_width = record { step = 1; enough = widest_box }

-- With tabs a width counts by its glyphs too, if a tab is whole glyphs wide.
unfoldable pub tab_step : Settings → ℕ
tab_step s = pick (eqb (s.tab.0 % s.glyph.0) 0) s.glyph.0 1

-- The widest part is enough, and right aligned one more tab's width.
unfoldable pub tab_skips : Settings → (widest : ℕ) → Skips
tab_skips s widest =
    pick (eqb s.alignment 0) (record { step = tab_step s; enough = widest })
    (pick (eqb s.alignment 2) (record { step = tab_step s; enough = widest + s.tab.0 }) each_width)

-- Without tabs a width counts by its glyphs.
unfoldable pub glyph_skips : Settings → (widest : ℕ) → Skips
glyph_skips s widest = record { step = s.glyph.0; enough = asked_glyphs s.alignment widest }

-- Justified lines are told apart by every width.
unfoldable pub skips_of : Settings → (bytes : List ℕ) → Skips
skips_of s t = pick (leb s.alignment 2) (pick (has_tab t) (tab_skips s (widest_of s t)) (glyph_skips s (widest_of s t))) each_width

-- The width to try after one in which the text did not fit. Below a step each is tried.
unfoldable pub next_width : Skips → (w : ℕ) → ℕ
next_width k w = pick (leb k.enough w) (suc widest_box) (pick (ltb w k.step) (w + 1) (w + k.step))

-- No sum of widths wraps.
abbrev pub SmallSkips : Skips → Type 0
SmallSkips k = (1 ≤ k.step) × (k.step ≤ 64)

-- A width of whole steps.
abbrev pub Whole : Skips → ℕ → Type 0
Whole k w = w / k.step * k.step ≡ w

-- Twice the room is asked for where lines are centred, and no more.
pub asked_centred : (alignment n r : ℕ) → alignment ≡ 1 → r ≡ n + n → r ≡ asked_glyphs alignment n
unfolding asked_glyphs
asked_centred alignment n r e is = is ∙ sym (pick_true (eqb alignment 1) _ _ (eq-eqb alignment 1 e))

pub asked_otherwise : (alignment n : ℕ) → (alignment ≡ 1 → ⊥) → n ≡ asked_glyphs alignment n
unfolding asked_glyphs
asked_otherwise alignment n d = sym (pick-false (eqb alignment 1) _ _ (ne_eqb alignment 1 d))

-- ---- what the code comes to

pub tab-whole : (s : Settings) → s.tab.0 % s.glyph.0 ≡ 0 → s.glyph.0 ≡ tab_step s
unfolding tab_step
tab-whole s e = sym (pick_true (eqb (s.tab.0 % s.glyph.0) 0) _ _ (eq-eqb (s.tab.0 % s.glyph.0) 0 e))

pub tab_uneven : (s : Settings) → (s.tab.0 % s.glyph.0 ≡ 0 → ⊥) → 1 ≡ tab_step s
unfolding tab_step
tab_uneven s d = sym (pick-false (eqb (s.tab.0 % s.glyph.0) 0) _ _ (ne_eqb (s.tab.0 % s.glyph.0) 0 d))

module _ (s : Settings) (widest : ℕ) where
  pub left-skips : s.alignment ≡ 0 → (k : Skips) → k.step ≡ tab_step s → k.enough ≡ widest → k ≡ tab_skips s widest
  unfolding tab_skips
  left-skips e k step enough = (λ i. record { step = step i; enough = enough i }) ∙ sym (pick_true (eqb s.alignment 0) _ _ (eq-eqb s.alignment 0 e))

  module _ (other : s.alignment ≡ 0 → ⊥) where
    pub right-skips : s.alignment ≡ 2 → (k : Skips) → k.step ≡ tab_step s → k.enough ≡ widest + s.tab.0 → k ≡ tab_skips s widest
    unfolding tab_skips
    right-skips e k step enough =
        (λ i. record { step = step i; enough = enough i })
        ∙ sym (pick-false (eqb s.alignment 0) _ _ (ne_eqb s.alignment 0 other) ∙ pick_true (eqb s.alignment 2) _ _ (eq-eqb s.alignment 2 e))

    pub centred_skips : (s.alignment ≡ 2 → ⊥) → each_width ≡ tab_skips s widest
    unfolding tab_skips
    centred_skips d =
        sym (pick-false (eqb s.alignment 0) _ _ (ne_eqb s.alignment 0 other) ∙ pick-false (eqb s.alignment 2) _ _ (ne_eqb s.alignment 2 d))

module _ (s : Settings) (t : List ℕ) where
  pub skips-none : 2 < s.alignment → each_width ≡ skips_of s t
  unfolding skips_of
  skips-none d = sym (pick-false (leb s.alignment 2) _ _ (lt-leb s.alignment 2 d))

  module _ (aligned : s.alignment ≤ 2) (k : Skips) where
    pub skips_tabs : has_tab t ≡ true → k ≡ tab_skips s (widest_of s t) → k ≡ skips_of s t
    unfolding skips_of
    skips_tabs e is = is ∙ sym (pick_true (leb s.alignment 2) _ _ (le-leb s.alignment 2 aligned) ∙ pick_true (has_tab t) _ _ e)

    pub skips-glyphs : has_tab t ≡ false → k.step ≡ s.glyph.0 → k.enough ≡ asked_glyphs s.alignment (widest_of s t) → k ≡ skips_of s t
    unfolding skips_of glyph_skips
    skips-glyphs e step enough =
        (λ i. record { step = step i; enough = enough i })
        ∙ sym (pick_true (leb s.alignment 2) _ _ (le-leb s.alignment 2 aligned) ∙ pick-false (has_tab t) _ _ e)

-- It is a wider one.
pub next-wider : (k : Skips) (w : ℕ) → SmallSkips k → w ≤ widest_box → w < next_width k w
unfolding next_width
next-wider k w small low =
    pick_cases (λ v. w < v) (leb k.enough w) (λ _. omega arith)
    (λ _. pick_cases (λ v. w < v) (ltb w k.step) (λ _. omega arith) (λ _. omega arith))

-- ---- whole steps

module _ (k : Skips) (small : SmallSkips k) where
  pub one-whole : Whole k k.step
  one-whole = ap (λ (n : ℕ). n * k.step) (div_self small.0) ∙ one-mul k.step

  module _ (w : ℕ) (whole : Whole k w) where
    pub next-whole : Whole k (w + k.step)
    next-whole = rw (add-div_right w small.0, add-mul (w / k.step) 1 k.step, one-mul k.step) (ap (λ (n : ℕ). n + k.step) whole)

    -- What is less than a step wider has as many.
    pub same_whole : (v : ℕ) → w ≤ v → v < w + k.step → w / k.step ≡ v / k.step
    same_whole v a b =
        let n = w / k.step in
        let up : n ≤ v / k.step = (le-div_iff_mul-le small.0).1 (omega (arith, whole)) in
        let next : (n + 1) * k.step ≡ w + k.step = add-mul n 1 k.step ∙ rw (one-mul k.step) (ap (λ (x : ℕ). x + k.step) whole) in
        let down : v / k.step < n + 1 = (div-lt_iff_lt-mul small.0).1 (omega (arith, next)) in
        omega (arith, up, down)
