-- A pass that begins further on, in a box that is wider by as much, does the same where tab stops stand there as they do here (rule 4, rule 8).
-- Assumes nothing.
use Rattle.std.specs.Prelude.{ℕ, ◌+◌, ◌*◌, ◌/◌, ◌≤◌, ◌≡◌, List, eqb, leb, length}
use Rattle.std.proofs.Common.{sym, ◌∙◌, arith, eq-eqb, ne_eqb}
use Rattle.std.proofs.Math.Path.{ap}
use Rattle.std.proofs.Math.Bool.{not}
use Rattle.basis.specs.Order.{by_eq}
use Rattle.meaning.specs.Tokens.{Tok}
use Rattle.meaning.specs.Cursor.{room_of, fits_in, advance, has_moved, tab_width}
use Rattle.meaning.specs.LineIter.{process}
use Rattle.meaning.specs.Columns.{with_width}
use Rattle.meaning.specs.declared.settings.Settings.{Settings}
use Rattle.meaning.specs.declared.cursor.LineCursor.{LineCursor}
use Rattle.meaning.specs.declared.cursor.Place.{Place}
use Rattle.laws.specs.Pens.{Plain}
use Rattle.widths.specs.TabStops.{next_stop, tab-to, SameStops, stop-further}
use Rattle.widths.specs.TwinPasses.{Twins, at_cursor, pass_same}

-- The second cursor is so much further on, its box as much wider, and tab stops stand alike.
pub record Further (d : ℕ) (x y : LineCursor) : Type 0 where
  pub box : y.width.0 ≡ x.width.0 + d
  pub position : y.position.0 ≡ x.position.0 + d
  pub start : y.start.0 ≡ x.start.0 + d
  pub tab : y.tab.0 ≡ x.tab.0
  pub stops : SameStops x.tab.0 d

same_ahead : (a b d : ℕ) → eqb a b ≡ eqb (a + d) (b + d)
same_ahead a b d =
    by_eq a b (λ e. eq-eqb a b e ∙ sym (eq-eqb (a + d) (b + d) (omega arith)))
    (λ n. ne_eqb a b n ∙ sym (ne_eqb (a + d) (b + d) (λ e. n (omega arith))))

module _ (d : ℕ) (x y : LineCursor) (f : Further d x y) where
  -- It has the same room, and its tabs are as wide.
  room-same : room_of x ≡ room_of y
  unfolding room_of
  room-same = omega (arith, f.box, f.position)

  fits-same : (n : ℕ) → fits_in x n ≡ fits_in y n
  unfolding fits_in
  fits-same n = ap (leb n) room-same

  moved_same : has_moved x ≡ has_moved y
  unfolding has_moved
  moved_same = rw (f.position, f.start) (ap not (same_ahead x.position.0 x.start.0 d))

  tab-same : tab_width x ≡ tab_width y
  tab-same =
      let there = ap (λ (t : ℕ). next_stop t y.position.0) f.tab ∙ ap (next_stop x.tab.0) f.position in
      omega (arith, tab-to x, tab-to y, there, stop-further x.tab.0 d x.position.0 f.stops, f.position)

  -- Both go on by as much.
  on_same : (m n : ℕ) → m ≡ n → Further d (advance x m) (advance y n)
  unfolding advance
  on_same m n e = record { box = f.box; position = omega (arith, f.position); start = f.start; tab = f.tab; stops = f.stops }

further_twins : (g d : ℕ) → Twins g (λ ts x y. Further d x y)
further_twins g d =
    record {
      fits = λ ts x y n f h. fits-same d x y f (n * g);
      room = λ ts x y n f h e. ap (λ (k : ℕ). k / g) (room-same d x y f);
      moved = λ ts x y f. moved_same d x y f;
      at-space = λ cs n e ts x y f. (on_same d x y f (n * g) (n * g) (λ i. n * g), f);
      at-word = λ cs e ts x y f. on_same d x y f (length cs * g) (length cs * g) (λ i. length cs * g);
      at-hyphen = λ ts x y f. (on_same d x y f g g (λ i. g), f);
      at-tab = λ ts x y f. (fits-same d x y f (tab_width x) ∙ ap (fits_in y) (tab-same d x y f), f);
      past-tab = λ ts x y f _. on_same d x y f (tab_width x) (tab_width y) (tab-same d x y f);
      at_edge_lem = λ ts x y f _. on_same d x y f (room_of x) (room_of y) (room-same d x y f);
    }

pub pass-further : (s : Settings) (w v : ℕ) → 1 ≤ s.glyph.0 → (d : ℕ) (ts : List Tok) (p : Place) (y : LineCursor) (at : ℕ)
    → Plain s.glyph.0 p.spaces → Further d p.cursor y → process (with_width s w) p at ts ≡ process (with_width s v) (at_cursor p y) at ts
pass-further s w v some d ts p y at plain f =
    pass_same s w v some (λ ts x y. Further d x y) (further_twins s.glyph.0 d) (λ ts x y f. (tab-same d x y f, λ _. room-same d x y f)) ts p y at plain f
