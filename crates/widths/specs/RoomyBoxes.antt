-- A pass with plain spaces, in a box with room for all its tokens up to the first that ends a line, does the same in every such box (rule 8).
-- Assumes nothing.
use Rattle.std.specs.Prelude.{ℕ, ◌+◌, ◌*◌, ◌≤◌, ◌≡◌, refl, true, eqb}
use Rattle.std.proofs.Common.{sym, ap, ◌∙◌, mul-le-mul_right, arith}
use Rattle.std.proofs.Math.Bool.{not}
use Rattle.std.proofs.lemmas.Bool.{false≢true}
use mathlib.Core.List.{List, [], ◌∷◌}
use Rattle.std.proofs.Math.Nat.{add-mul, zero-mul, one-mul}
use borrow.Author.Tests.{le-leb}
use Rattle.std.proofs.Math.ListN.{length}
use Rattle.meaning.specs.Tokens.{Tok, newLine, carriageReturn, tab, softHyphen, space, word}
use Rattle.meaning.specs.Cursor.{room_of, fits_in, advance, has_moved, tab_width}
use Rattle.meaning.specs.LineIter.{process}
use Rattle.meaning.specs.Columns.{with_width}
use Rattle.meaning.specs.declared.settings.Settings.{Settings}
use Rattle.meaning.specs.declared.cursor.LineCursor.{LineCursor}
use Rattle.meaning.specs.declared.cursor.Place.{Place}
use Rattle.laws.specs.Pens.{Plain}
use Rattle.widths.specs.GlyphLooks.{most_glyphs}
use Rattle.widths.specs.TabStops.{next_stop, stop-on, stop-more, tab-to}
use Rattle.widths.specs.TwinPasses.{Twins, at_cursor, pass_same}

-- ---- where tokens take the cursor

-- At most, from a place on and up to the first that ends a line.
unfoldable pub end_of : (g tab at : ℕ) → List Tok → ℕ
end_of g t at [] = at
end_of g t at (newLine ∷ ts) = at
end_of g t at (carriageReturn ∷ ts) = at
end_of g t at (tab ∷ ts) = end_of g t (next_stop t at) ts
end_of g t at (softHyphen ∷ ts) = end_of g t (at + g) ts
end_of g t at (space cs n e ∷ ts) = end_of g t (at + n * g) ts
end_of g t at (word cs e ∷ ts) = end_of g t (at + length cs * g) ts

module _ (g t : ℕ) where
  -- From further on no less far.
  pub end_more : (ts : List Tok) (a b : ℕ) → a ≤ b → end_of g t a ts ≤ end_of g t b ts
  unfolding end_of
  end_more [] a b h = h
  end_more (newLine ∷ ts) a b h = h
  end_more (carriageReturn ∷ ts) a b h = h
  end_more (tab ∷ ts) a b h = end_more ts (next_stop t a) (next_stop t b) (stop-more t a b h)
  end_more (softHyphen ∷ ts) a b h = end_more ts (a + g) (b + g) (omega arith)
  end_more (space cs n e ∷ ts) a b h = end_more ts (a + n * g) (b + n * g) (omega arith)
  end_more (word cs e ∷ ts) a b h = end_more ts (a + length cs * g) (b + length cs * g) (omega arith)

  -- By all their glyphs at least.
  end-glyphs : (ts : List Tok) (at : ℕ) → at + most_glyphs ts * g ≤ end_of g t at ts
  unfolding end_of most_glyphs
  end-glyphs [] at = omega (arith, zero-mul g)
  end-glyphs (newLine ∷ ts) at = omega (arith, zero-mul g)
  end-glyphs (carriageReturn ∷ ts) at = omega (arith, zero-mul g)
  end-glyphs (tab ∷ ts) at = omega (arith, end-glyphs ts (next_stop t at), stop-on t at)
  end-glyphs (softHyphen ∷ ts) at = omega (arith, end-glyphs ts (at + g), add-mul 1 (most_glyphs ts) g, one-mul g)
  end-glyphs (space cs n e ∷ ts) at = omega (arith, end-glyphs ts (at + n * g), add-mul n (most_glyphs ts) g)
  end-glyphs (word cs e ∷ ts) at = omega (arith, end-glyphs ts (at + length cs * g), add-mul (length cs) (most_glyphs ts) g)

-- ---- two cursors

-- At the same place of two boxes that hold what is to come.
pub record Roomy (g : ℕ) (ts : List Tok) (x y : LineCursor) : Type 0 where
  pub position : y.position.0 ≡ x.position.0
  pub start : y.start.0 ≡ x.start.0
  pub tab : y.tab.0 ≡ x.tab.0
  pub here : end_of g x.tab.0 x.position.0 ts ≤ x.width.0
  pub there : end_of g x.tab.0 x.position.0 ts ≤ y.width.0

module _ (g : ℕ) (x y : LineCursor) where
  abbrev t : ℕ
  t = x.tab.0

  abbrev p : ℕ
  p = x.position.0

  -- What goes no further than the tokens fits in both.
  both_fit : (ts : List Tok) → Roomy g ts x y → (m n : ℕ) → m ≡ n → p + m ≤ end_of g t p ts → (fits_in x m ≡ true) × (fits_in y n ≡ true)
  unfolding fits_in room_of
  both_fit ts f m n e h = (le-leb m _ (omega (arith, f.here)), le-leb n _ (omega (arith, f.there, f.position)))

  glyphs_fit : (ts : List Tok) → Roomy g ts x y → (n : ℕ) → n ≤ most_glyphs ts → (fits_in x (n * g) ≡ true) × (fits_in y (n * g) ≡ true)
  glyphs_fit ts f n h = both_fit ts f (n * g) (n * g) refl (omega (arith, end-glyphs g t ts p, mul-le-mul_right g h))

  moved_same : (ts : List Tok) → Roomy g ts x y → has_moved x ≡ has_moved y
  unfolding has_moved
  moved_same ts f = λ i. not (eqb (sym f.position i) (sym f.start i))

  -- Both stand still, or go on by as much.
  still-roomy : (us ts : List Tok) → Roomy g us x y → end_of g t p ts ≤ end_of g t p us → Roomy g ts x y
  still-roomy us ts f h =
      record { position = f.position; start = f.start; tab = f.tab; here = omega (arith, f.here); there = omega (arith, f.there) }

  on-roomy : (us ts : List Tok) → Roomy g us x y → (m n : ℕ) → m ≡ n → end_of g t (p + m) ts ≤ end_of g t p us → Roomy g ts (advance x m) (advance y n)
  unfolding advance
  on-roomy us ts f m n e h =
      record {
        position = omega (arith, f.position);
        start = f.start;
        tab = f.tab;
        here = omega (arith, f.here);
        there = omega (arith, f.there);
      }

  -- ---- a tab

  module _ (ts : List Tok) (f : Roomy g (tab ∷ ts) x y) where
    tab-same : tab_width x ≡ tab_width y
    tab-same =
        let stops = ap (λ (k : ℕ). next_stop k y.position.0) f.tab ∙ ap (next_stop t) f.position in
        omega (arith, tab-to x, tab-to y, stops, f.position)

    tab-fits : (fits_in x (tab_width x) ≡ true) × (fits_in y (tab_width y) ≡ true)
    unfolding end_of
    tab-fits = both_fit (tab ∷ ts) f (tab_width x) (tab_width y) tab-same (omega (arith, tab-to x, end-glyphs g t ts (next_stop t p)))

    past-tab : Roomy g ts (advance x (tab_width x)) (advance y (tab_width y))
    unfolding end_of
    past-tab = on-roomy (tab ∷ ts) ts f (tab_width x) (tab_width y) tab-same (end_more g t ts (p + tab_width x) (next_stop t p) (omega (arith, tab-to x)))

    tab-still : Roomy g ts x y
    unfolding end_of
    tab-still = still-roomy (tab ∷ ts) ts f (end_more g t ts p (next_stop t p) (stop-on t p))

roomy_twins : (g : ℕ) → Twins g (Roomy g)
unfolding end_of
roomy_twins g =
    record {
      fits = λ ts x y n f h. let both = glyphs_fit g x y ts f n h in both.0 ∙ sym both.1;
      room = λ ts x y n f h e. absurd (false≢true (sym e ∙ (glyphs_fit g x y ts f n h).0));
      moved = λ ts x y f. moved_same g x y ts f;
      at-space = λ cs n e ts x y f. (
        on-roomy g x y (space cs n e ∷ ts) ts f (n * g) (n * g) refl (omega arith),
        still-roomy g x y (space cs n e ∷ ts) ts f (end_more g x.tab.0 ts x.position.0 (x.position.0 + n * g) (omega arith)),
      );
      at-word = λ cs e ts x y f. on-roomy g x y (word cs e ∷ ts) ts f (length cs * g) (length cs * g) refl (omega arith);
      at-hyphen = λ ts x y f. (
        on-roomy g x y (softHyphen ∷ ts) ts f g g refl (omega arith),
        still-roomy g x y (softHyphen ∷ ts) ts f (end_more g x.tab.0 ts x.position.0 (x.position.0 + g) (omega arith)),
      );
      at-tab = λ ts x y f. let both = tab-fits g x y ts f in (both.0 ∙ sym both.1, tab-still g x y ts f);
      past-tab = λ ts x y f _. past-tab g x y ts f;
      at_edge_lem = λ ts x y f e. absurd (false≢true (sym e ∙ (tab-fits g x y ts f).0));
    }

pub pass-roomy : (s : Settings) (w v : ℕ) → 1 ≤ s.glyph.0 → (ts : List Tok) (p : Place) (y : LineCursor) (at : ℕ) → Plain s.glyph.0 p.spaces
    → Roomy s.glyph.0 ts p.cursor y → process (with_width s w) p at ts ≡ process (with_width s v) (at_cursor p y) at ts
pass-roomy s w v some ts p y at plain f =
    pass_same s w v some (Roomy s.glyph.0) (roomy_twins s.glyph.0)
    (λ ts x y f. (tab-same s.glyph.0 x y ts f, λ e. absurd (false≢true (sym e ∙ (tab-fits s.glyph.0 x y ts f).0)))) ts p y at plain f
