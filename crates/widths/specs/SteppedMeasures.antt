-- Where tabs are whole glyphs wide, a line is measured alike in two boxes that hold the same count of glyphs: up to the last print the same is
-- drawn, and behind a tab that does not fit nothing is printed any more (rule 8, rule 10).
-- Assumes nothing.
use Rattle.std.specs.Prelude.{ℕ, ◌+◌, ◌-◌, ◌*◌, ◌≤◌, ◌<◌, ◌≡◌, refl, true, ◌⊎◌, List, [], ◌∷◌, ◌++◌, length}
use Rattle.std.proofs.Common.{sym, ap, ◌∙◌}
use Rattle.std.proofs.Math.Logic.{inl, inr}
use native.Mathlib.Omega.{arith}
use borrow.Author.Tests.{leb-true}
use Rattle.meaning.specs.Tokens.{Tok, tab}
use Rattle.meaning.specs.Cursor.{room_of, fits_in, advance, tab_width}
use Rattle.meaning.specs.Words.{Drawn, drawn}
use Rattle.meaning.specs.LineIter.{moved_on}
use Rattle.meaning.specs.Line.{unmeasured, measured}
use Rattle.meaning.specs.Columns.{with_width}
use Rattle.meaning.specs.declared.settings.Settings.{Settings}
use Rattle.meaning.specs.declared.cursor.LineCursor.{LineCursor}
use Rattle.meaning.specs.declared.line.EventKind.TheVariants.{Move}
use Rattle.laws.specs.Spell.{Sound}
use Rattle.laws.specs.LastPrint.{if_more, kept_if, to_last_print, width_of, measured-width}
use Rattle.widths.specs.TabStops.{next_stop, tab-to}
use Rattle.widths.specs.TwinPasses.{Twins, Draws, at_cursor}
use Rattle.widths.specs.QuietRooms.{pass_quiet}
use Rattle.widths.specs.SteppedBoxes.{Stepped, stepped_twins}

-- ---- what is drawn

-- The same up to the last print: it is measured alike.
abbrev pub SamePrinted : List Drawn → List Drawn → Type 0
SamePrinted ds es = to_last_print ds ≡ to_last_print es

pub printed-width : (ds es : List Drawn) → SamePrinted ds es → (measured unmeasured ds).width.0 ≡ (measured unmeasured es).width.0
printed-width ds es e = measured-width ds ∙ ap width_of e ∙ sym (measured-width es)

behind-same : (ds es fs : List Drawn) → SamePrinted es fs → SamePrinted (ds ++ es) (ds ++ fs)
unfolding to_last_print
behind-same [] es fs e = e
behind-same (d ∷ ds) es fs e = ap (kept_if d.kind d) (behind-same ds es fs e)

-- ---- two cursors

-- Such cursors at the same place, or at the edge of the second box and past it.
pub record Measured (g r : ℕ) (ts : List Tok) (x y : LineCursor) : Type 0 where
  pub sound : Sound ts
  pub stepped : Stepped g r x y
  pub place : (x.position.0 ≡ y.position.0) ⊎ (y.width.0 ≤ y.position.0)

-- Tabs from the same place go to the same stop.
same_stop : (x y : LineCursor) → x.tab.0 ≡ y.tab.0 → x.position.0 ≡ y.position.0 → tab_width x ≡ tab_width y
same_stop x y t p =
    let stops : next_stop x.tab.0 x.position.0 ≡ next_stop y.tab.0 y.position.0 = λ i. next_stop (t i) (p i) in
    omega (arith, tab-to x, tab-to y, stops, p)

edge-room : (g : ℕ) (c : LineCursor) → 1 ≤ g → room_of (advance c (room_of c)) < g
unfolding room_of advance
edge-room g c some = omega arith

module _ (g r : ℕ) (some : 1 ≤ g) (small : r < g) where
  abbrev T : Twins g (λ ts x y. Stepped g r x y)
  T = stepped_twins g r some small

  on-place : (x y : LineCursor) (m n : ℕ) → m ≡ n → (x.position.0 ≡ y.position.0) ⊎ (y.width.0 ≤ y.position.0)
      → ((advance x m).position.0 ≡ (advance y n).position.0) ⊎ ((advance y n).width.0 ≤ (advance y n).position.0)
  unfolding advance
  on-place x y m n e (inl h) = inl (omega (arith, h, e))
  on-place x y m n e (inr h) = inr (omega (arith, h))

  at_place : (y : LineCursor) → (advance y (room_of y)).width.0 ≤ (advance y (room_of y)).position.0
  unfolding advance room_of
  at_place y = omega arith

  -- A tab that fits is as wide.
  tab-same : (ts : List Tok) (x y : LineCursor) → Measured g r (tab ∷ ts) x y → fits_in x (tab_width x) ≡ true → tab_width x ≡ tab_width y
  unfolding fits_in room_of
  tab-same ts x y f e = by_place f.place f.stepped.place
    where
      by_place : (x.position.0 ≡ y.position.0) ⊎ (y.width.0 ≤ y.position.0)
          → (x.position.0 ≡ y.position.0 + r) ⊎ ((x.position.0 ≡ y.position.0) × (y.start.0 < y.width.0)) → tab_width x ≡ tab_width y
      by_place (inl h) k = same_stop x y f.stepped.tab h
      by_place (inr h) (inr k) = same_stop x y f.stepped.tab k.0
      by_place (inr h) (inl k) =
          let here = leb-true (tab_width x) (x.width.0 - x.position.0) e in
          let there = leb-true (tab_width y) (y.width.0 - y.position.0) (sym (T.at-tab ts x y f.stepped).0 ∙ e) in
          omega (arith, here, there, h, k, f.stepped.box)

  pub measured_twins : Twins g (Measured g r)
  measured_twins =
      record {
        fits = λ ts x y n f h. T.fits ts x y n f.stepped h;
        room = λ ts x y n f h e. T.room ts x y n f.stepped h e;
        moved = λ ts x y f. T.moved ts x y f.stepped;
        at-space = λ cs n e ts x y f.
            let on = T.at-space cs n e ts x y f.stepped in (
              record { sound = f.sound.1; stepped = on.0; place = on-place x y (n * g) (n * g) refl f.place },
              record { sound = f.sound.1; stepped = on.1; place = f.place },
            );
        at-word = λ cs e ts x y f.
            record {
              sound = f.sound.1;
              stepped = T.at-word cs e ts x y f.stepped;
              place = on-place x y (length cs * g) (length cs * g) refl f.place;
            };
        at-hyphen = λ ts x y f.
            let on = T.at-hyphen ts x y f.stepped in (
              record { sound = f.sound.1; stepped = on.0; place = on-place x y g g refl f.place },
              record { sound = f.sound.1; stepped = on.1; place = f.place },
            );
        at-tab = λ ts x y f. ((T.at-tab ts x y f.stepped).0, record { sound = f.sound.1; stepped = f.stepped; place = f.place });
        past-tab = λ ts x y f e.
            record {
              sound = f.sound.1;
              stepped = T.past-tab ts x y f.stepped e;
              place = on-place x y (tab_width x) (tab_width y) (tab-same ts x y f e) f.place;
            };
        at_edge_lem = λ ts x y f e. record { sound = f.sound.1; stepped = T.at_edge_lem ts x y f.stepped e; place = inr (at_place y) };
      }

pub measured-draws : (s : Settings) (w v r : ℕ) → 1 ≤ s.glyph.0 → r < s.glyph.0
    → Draws (with_width s w) (with_width s v) (Measured s.glyph.0 r) SamePrinted
unfolding to_last_print if_more with_width
measured-draws s w v r some small =
    record {
      same = λ ds. refl;
      on = behind-same;
      tabbed = λ ts x y f e k from to es fs d.
          let same = tab-same s.glyph.0 r some small ts x y f e in
          λ i. kept_if k (drawn k from to 0 (same i)) (d i);
      edged = λ ts p y f e from to at d.
          let x = p.cursor in
          let here = pass_quiet (with_width s w) ts (moved_on p (room_of x)) at f.sound.1 (edge-room s.glyph.0 x some) in
          let there = pass_quiet (with_width s v) ts (moved_on (at_cursor p y) (room_of y)) at f.sound.1 (edge-room s.glyph.0 y some) in
          ap (if_more (drawn Move from to 0 (room_of x))) here ∙ sym (ap (if_more (drawn Move from to 0 (room_of y))) there);
    }
