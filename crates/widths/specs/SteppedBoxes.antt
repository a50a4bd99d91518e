-- Two boxes that hold the same count of glyphs, the one with less than a glyph left over, where tabs are whole glyphs wide: cursors that stand
-- at the same place, or by what is left over apart, pass every test alike (rule 4, rule 8).
-- Assumes nothing.
use Rattle.std.specs.Prelude.{ℕ, ◌+◌, ◌-◌, ◌*◌, ◌/◌, ◌≤◌, ◌<◌, ◌≡◌, refl, true, ◌⊎◌, eqb, length}
use Rattle.std.proofs.Math.Path.{sym, ap}
use Rattle.std.proofs.Common.{◌∙◌, one-mul, mul_comm, le-div_iff_mul-le, mul-div_cancel}
use Rattle.std.proofs.Math.Bool.{not}
use Rattle.std.proofs.Math.Logic.{inl, inr}
use Rattle.std.proofs.Math.Nat.{add-mul, zero-mul, lt-div-mul-add, mul-add-div_right, div-eq_of_lt, div-div-eq-div-mul}
use native.Mathlib.Omega.{arith}
use borrow.Author.Tests.{eq-eqb, ne_eqb, leb-true}
use Rattle.basis.specs.Choice.{pick}
use Rattle.basis.specs.Order.{by_eq, by_le}
use Rattle.meaning.specs.Cursor.{room_of, fits_in, advance, has_moved, tab_width}
use Rattle.meaning.specs.declared.cursor.LineCursor.{LineCursor}
use Rattle.widths.specs.TabStops.{next_stop, tab-to, whole-stop}
use Rattle.widths.specs.Wholes.{Whole}
use Rattle.widths.specs.GlyphRoom.{glyphs-left, leb-alike}
use Rattle.widths.specs.TwinPasses.{Twins}

-- ---- numbers

module _ (g r : ℕ) (some : 1 ≤ g) (small : r < g) where
  -- What is left over counts for no glyph.
  whole-glyphs : (n : ℕ) → Whole g n → (n + r) / g ≡ n / g
  whole-glyphs n k =
      let over : r / g ≡ 0 = div-eq_of_lt small in
      ap (λ (m : ℕ). (m + r) / g) k.is ∙ mul-add-div_right some k.count r ∙ (omega (arith, over, mul-div_cancel k.count some))
      ∙ sym (ap (λ (m : ℕ). m / g) k.is)

  -- Whole glyphs fit beside it if they fit without it.
  whole-fits : (m n : ℕ) → Whole g m → Whole g n → m ≤ n + r → m ≤ n
  whole-fits m n j k h =
      let up : j.count ≤ (n + r) / g = (le-div_iff_mul-le some).1 (omega (arith, j.is)) in
      let down : j.count * g ≤ n = (le-div_iff_mul-le some).0 (omega (arith, up, whole-glyphs n k)) in
      omega (arith, down, j.is)

  -- Behind it stands the same tab stop.
  same-tab : (t p : ℕ) → 1 ≤ t → Whole g t → Whole g p → (p + r) / t ≡ p / t
  same-tab t p tabs j k =
      let by : (m : ℕ) → m / t ≡ m / g / j.count =
      λ m. ap (λ (n : ℕ). m / n) (j.is ∙ mul_comm j.count g) ∙ sym (div-div-eq-div-mul m g j.count) in
      by (p + r) ∙ ap (λ (n : ℕ). n / j.count) (whole-glyphs p k) ∙ sym (by p)

-- ---- tab stops

module _ (t : ℕ) (tabs : 1 ≤ t) where
  stop_is : (p : ℕ) → next_stop t p ≡ (p / t + 1) * t
  unfolding next_stop pick
  stop_is p = rw (ne_eqb t 0 (λ e. omega arith))

  stop-above : (p : ℕ) → p < next_stop t p
  stop-above p = omega (arith, stop_is p, add-mul (p / t) 1 t, lt-div-mul-add {a = p} {b = t} tabs)

no_stop : (p : ℕ) → next_stop 0 p ≡ p
unfolding next_stop pick
no_stop p = refl

-- ---- two cursors

pub record Stepped (g r : ℕ) (x y : LineCursor) : Type 0 where
  pub box : x.width.0 ≡ y.width.0 + r
  pub whole-box : Whole g y.width.0
  pub tab : x.tab.0 ≡ y.tab.0
  pub whole-tab : Whole g y.tab.0
  pub whole : Whole g y.position.0
  pub place : (x.position.0 ≡ y.position.0 + r) ⊎ ((x.position.0 ≡ y.position.0) × (y.start.0 < y.width.0))
  pub low_x : x.start.0 ≤ x.position.0
  pub low-y : y.start.0 ≤ y.position.0
  pub still : (x.position.0 ≡ x.start.0 → y.position.0 ≡ y.start.0) × (y.position.0 ≡ y.start.0 → x.position.0 ≡ x.start.0)

same_test : (a b c d : ℕ) → (a ≡ b → c ≡ d) → (c ≡ d → a ≡ b) → eqb a b ≡ eqb c d
same_test a b c d f g =
    by_eq a b (λ e. eq-eqb a b e ∙ sym (eq-eqb c d (f e))) (λ n. ne_eqb a b n ∙ sym (ne_eqb c d (λ e. n (g e))))

module _ (g r : ℕ) (some : 1 ≤ g) (small : r < g) (x y : LineCursor) (f : Stepped g r x y) where
  -- Both have room for the same count of glyphs.
  room-glyphs : room_of x / g ≡ room_of y / g
  unfolding room_of
  room-glyphs = by_place f.place
    where
      by_place : (x.position.0 ≡ y.position.0 + r) ⊎ ((x.position.0 ≡ y.position.0) × (y.start.0 < y.width.0))
          → (x.width.0 - x.position.0) / g ≡ (y.width.0 - y.position.0) / g
      by_place (inl e) =
          let same : x.width.0 - x.position.0 ≡ y.width.0 - y.position.0 = omega (arith, f.box, e) in
          ap (λ (n : ℕ). n / g) same
      by_place (inr e) =
          let n = f.whole.count in
          let here : x.width.0 - x.position.0 ≡ y.width.0 + r - n * g = omega (arith, f.box, e.0, f.whole.is) in
          let there : y.width.0 - y.position.0 ≡ y.width.0 - n * g = omega (arith, f.whole.is) in
          ap (λ (k : ℕ). k / g) here ∙ glyphs-left g (y.width.0 + r) n some
          ∙ ap (λ (k : ℕ). k - n) (whole-glyphs g r some small y.width.0 f.whole-box)
          ∙ sym (ap (λ (k : ℕ). k / g) there ∙ glyphs-left g y.width.0 n some)

  fits-glyphs : (n : ℕ) → fits_in x (n * g) ≡ fits_in y (n * g)
  unfolding fits_in
  fits-glyphs n =
      leb-alike (n * g) (room_of x) (n * g) (room_of y)
      (λ h. (le-div_iff_mul-le some).0 (omega (arith, (le-div_iff_mul-le {k = g} {x = n} {y = room_of x} some).1 h, room-glyphs)))
      (λ h. (le-div_iff_mul-le some).0 (omega (arith, (le-div_iff_mul-le {k = g} {x = n} {y = room_of y} some).1 h, room-glyphs)))

  moved-alike : has_moved x ≡ has_moved y
  unfolding has_moved
  moved-alike = ap not (same_test x.position.0 x.start.0 y.position.0 y.start.0 f.still.0 f.still.1)

  -- Both go on by so many glyphs.
  on-glyphs : (n a b : ℕ) → a ≡ n * g → b ≡ n * g → Stepped g r (advance x a) (advance y b)
  unfolding advance
  on-glyphs n a b d e =
      record {
        box = f.box;
        whole-box = f.whole-box;
        tab = f.tab;
        whole-tab = f.whole-tab;
        whole = record { count = f.whole.count + n; is = omega (arith, f.whole.is, e, add-mul f.whole.count n g) };
        place = further f.place;
        low_x = omega (arith, f.low_x);
        low-y = omega (arith, f.low-y);
        still = (
          λ h. let k = f.still.0 (omega (arith, f.low_x, h)) in omega (arith, f.low_x, h, k, d, e),
          λ h. let k = f.still.1 (omega (arith, f.low-y, h)) in omega (arith, f.low-y, h, k, d, e),
        );
      }
    where
      further : (x.position.0 ≡ y.position.0 + r) ⊎ ((x.position.0 ≡ y.position.0) × (y.start.0 < y.width.0))
          → (x.position.0 + a ≡ y.position.0 + b + r) ⊎ ((x.position.0 + a ≡ y.position.0 + b) × (y.start.0 < y.width.0))
      further (inl h) = inl (omega (arith, h, d, e))
      further (inr h) = inr (omega (arith, h.0, d, e), h.1)

  -- ---- tabs

  abbrev t : ℕ
  t = y.tab.0

  -- Where a tab goes.
  stop-x : next_stop t x.position.0 ≡ x.position.0 + tab_width x
  stop-x = ap (λ (k : ℕ). next_stop k x.position.0) (sym f.tab) ∙ tab-to x

  stop-y : next_stop t y.position.0 ≡ y.position.0 + tab_width y
  stop-y = tab-to y

  module _ (tabs : 1 ≤ t) where
    abbrev S : ℕ
    S = next_stop t y.position.0

    one-stop : next_stop t x.position.0 ≡ S
    one-stop = by_place f.place
      where
        by_place : (x.position.0 ≡ y.position.0 + r) ⊎ ((x.position.0 ≡ y.position.0) × (y.start.0 < y.width.0))
            → next_stop t x.position.0 ≡ S
        by_place (inl e) =
            ap (next_stop t) e ∙ stop_is t tabs (y.position.0 + r)
            ∙ ap (λ (k : ℕ). (k + 1) * t) (same-tab g r some small t y.position.0 tabs f.whole-tab f.whole)
            ∙ sym (stop_is t tabs y.position.0)
        by_place (inr e) = ap (next_stop t) e.0

    stop-whole : Whole g S
    stop-whole = whole-stop g t y.position.0 f.whole-tab f.whole

    above-x : x.position.0 < S
    above-x = omega (arith, one-stop, stop-above t tabs x.position.0)

    above-y : y.position.0 < S
    above-y = stop-above t tabs y.position.0

    stop-fits : S ≤ x.width.0 → S ≤ y.width.0
    stop-fits h = whole-fits g r some small S y.width.0 stop-whole f.whole-box (omega (arith, f.box))

    tab-alike : fits_in x (tab_width x) ≡ fits_in y (tab_width y)
    unfolding fits_in room_of
    tab-alike =
        leb-alike (tab_width x) (x.width.0 - x.position.0) (tab_width y) (y.width.0 - y.position.0)
        (λ h. let fits = stop-fits (omega (arith, h, stop-x, one-stop, above-x)) in omega (arith, fits, stop-y, above-y))
        (λ h. omega (arith, h, stop-x, stop-y, one-stop, above-y, above-x, f.box))

    -- Both stand at the stop.
    at-stop : S ≤ y.width.0 → Stepped g r (advance x (tab_width x)) (advance y (tab_width y))
    unfolding advance
    at-stop fits =
        record {
          box = f.box;
          whole-box = f.whole-box;
          tab = f.tab;
          whole-tab = f.whole-tab;
          whole = record { count = stop-whole.count; is = sym stop-y ∙ stop-whole.is };
          place = inr (omega (arith, stop-x, stop-y, one-stop), omega (arith, fits, above-y, f.low-y));
          low_x = omega (arith, f.low_x);
          low-y = omega (arith, f.low-y);
          still = (
            λ h. absurd (omega (arith, h, stop-x, one-stop, above-x, f.low_x)),
            λ h. absurd (omega (arith, h, stop-y, above-y, f.low-y)),
          );
        }

    fits-stop : fits_in x (tab_width x) ≡ true → S ≤ y.width.0
    unfolding fits_in room_of
    fits-stop e = let h = leb-true (tab_width x) (x.width.0 - x.position.0) e in stop-fits (omega (arith, h, stop-x, one-stop, above-x))

  -- Where a tab has no width both stand still.
  none-x : t ≡ 0 → tab_width x ≡ 0
  none-x e = omega (arith, stop-x, ap (λ (k : ℕ). next_stop k x.position.0) e, no_stop x.position.0)

  none-y : t ≡ 0 → tab_width y ≡ 0
  none-y e = omega (arith, stop-y, ap (λ (k : ℕ). next_stop k y.position.0) e, no_stop y.position.0)

  nothing-fits : fits_in x 0 ≡ fits_in y 0
  unfolding fits_in
  nothing-fits = leb-alike 0 (room_of x) 0 (room_of y) (λ _. omega arith) (λ _. omega arith)

  tabs_alike : fits_in x (tab_width x) ≡ fits_in y (tab_width y)
  tabs_alike =
      by_eq t 0
      (λ e. rw (none-x e, none-y e) nothing-fits)
      (λ d. tab-alike (omega arith))

  past-tab : fits_in x (tab_width x) ≡ true → Stepped g r (advance x (tab_width x)) (advance y (tab_width y))
  past-tab e =
      by_eq t 0 (λ z. on-glyphs 0 (tab_width x) (tab_width y) (omega (arith, none-x z, zero-mul g)) (omega (arith, none-y z, zero-mul g)))
      (λ d. at-stop (omega arith) (fits-stop (omega arith) e))

  -- ---- at the edge

  -- Past it neither has room.
  out : y.width.0 < y.position.0 → x.width.0 ≤ x.position.0
  out h = by_place f.place
    where
      by_place : (x.position.0 ≡ y.position.0 + r) ⊎ ((x.position.0 ≡ y.position.0) × (y.start.0 < y.width.0)) → x.width.0 ≤ x.position.0
      by_place (inl e) = omega (arith, h, e, f.box)
      by_place (inr e) =
          by_le x.width.0 x.position.0 (λ k. k)
          (λ k. absurd (omega (arith, h, whole-fits g r some small y.position.0 y.width.0 f.whole f.whole-box (omega (arith, k, f.box, e.0)))))

  module _ (inside : y.position.0 ≤ y.width.0) where
    to-x : x.position.0 + room_of x ≡ x.width.0
    unfolding room_of
    to-x = by_place f.place
      where
        by_place : (x.position.0 ≡ y.position.0 + r) ⊎ ((x.position.0 ≡ y.position.0) × (y.start.0 < y.width.0))
            → x.position.0 + (x.width.0 - x.position.0) ≡ x.width.0
        by_place (inl e) = omega (arith, f.box, e)
        by_place (inr e) = omega (arith, f.box, e.0)

    to-y : y.position.0 + room_of y ≡ y.width.0
    unfolding room_of
    to-y = omega arith

    -- Neither has left its starting place, or both have.
    edge-still : (x.position.0 + room_of x ≡ x.start.0 → y.position.0 + room_of y ≡ y.start.0)
        × (y.position.0 + room_of y ≡ y.start.0 → x.position.0 + room_of x ≡ x.start.0)
    edge-still = by_place f.place
      where
        by_place : (x.position.0 ≡ y.position.0 + r) ⊎ ((x.position.0 ≡ y.position.0) × (y.start.0 < y.width.0))
            → (x.position.0 + room_of x ≡ x.start.0 → y.position.0 + room_of y ≡ y.start.0)
            × (y.position.0 + room_of y ≡ y.start.0 → x.position.0 + room_of x ≡ x.start.0)
        by_place (inl e) = (
          λ h. let k = f.still.0 (omega (arith, f.low_x, h)) in omega (arith, to-x, to-y, f.box, e, h, k, f.low_x),
          λ h. let k = f.still.1 (omega (arith, f.low-y, h)) in omega (arith, to-x, to-y, f.box, e, h, k, f.low-y),
        )
        by_place (inr e) = (
          λ h.
              let k = f.still.0 (omega (arith, f.low_x, h)) in
              absurd (omega (arith, to-x, to-y, f.box, e.0, e.1, h, k, f.low_x, inside)),
          λ h. absurd (omega (arith, to-y, e.1, h)),
        )

    at_edge_lem : Stepped g r (advance x (room_of x)) (advance y (room_of y))
    unfolding advance
    at_edge_lem =
        record {
          box = f.box;
          whole-box = f.whole-box;
          tab = f.tab;
          whole-tab = f.whole-tab;
          whole = record { count = f.whole-box.count; is = to-y ∙ f.whole-box.is };
          place = inl (omega (arith, to-x, to-y, f.box));
          low_x = omega (arith, f.low_x);
          low-y = omega (arith, f.low-y);
          still = edge-still;
        }

  no_room : (z : LineCursor) → z.width.0 ≤ z.position.0 → room_of z ≡ 0 * g
  unfolding room_of
  no_room z h = omega (arith, zero-mul g)

  past-edge : Stepped g r (advance x (room_of x)) (advance y (room_of y))
  past-edge =
      by_le y.position.0 y.width.0 at_edge_lem
      (λ h. on-glyphs 0 (room_of x) (room_of y) (no_room x (out h)) (no_room y (omega arith)))

-- ---- they are twins

pub stepped_twins : (g r : ℕ) → 1 ≤ g → r < g → Twins g (λ ts x y. Stepped g r x y)
stepped_twins g r some small =
    record {
      fits = λ ts x y n f h. fits-glyphs g r some small x y f n;
      room = λ ts x y n f h e. room-glyphs g r some small x y f;
      moved = λ ts x y f. moved-alike g r some small x y f;
      at-space = λ cs n e ts x y f. (on-glyphs g r some small x y f n (n * g) (n * g) refl refl, f);
      at-word = λ cs e ts x y f. on-glyphs g r some small x y f (length cs) (length cs * g) (length cs * g) refl refl;
      at-hyphen = λ ts x y f. (on-glyphs g r some small x y f 1 g g (sym (one-mul g)) (sym (one-mul g)), f);
      at-tab = λ ts x y f. (tabs_alike g r some small x y f, f);
      past-tab = λ ts x y f e. past-tab g r some small x y f e;
      at_edge_lem = λ ts x y f e. past-edge g r some small x y f;
    }
