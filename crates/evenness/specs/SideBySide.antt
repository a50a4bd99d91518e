-- The measure and the draw of a justified line, side by side: the draw is further on by no more than its spaces are wider, and so, as long
-- as the measure still prints something, by no more than the room (rule 6, rule 8).
-- Assumes nothing.
use Rattle.std.specs.Prelude.{ℕ, ◌+◌, ◌-◌, ◌*◌, ◌≤◌, ◌≡◌, Bool, true, false, ◌&&◌, ◌⊎◌, length}
use Rattle.std.proofs.Math.Path.{refl, ap}
use Rattle.std.proofs.Common.{sym, ◌∙◌}
use Rattle.std.proofs.Math.Bool.{not}
use Rattle.std.proofs.Math.Logic.{inl, inr}
use mathlib.Core.List.{List, [], ◌∷◌, ◌++◌, cons≢nil}
use Rattle.std.proofs.Math.Nat.{add-mul, mul-le-mul_left}
use native.Mathlib.Omega.{arith}
use borrow.Author.Tests.{leb-false, le-leb, lt-leb}
use Rattle.meaning.specs.Cursor.{room_of, fits_in, advance}
use Rattle.meaning.specs.SpaceConfig.{spaces_width, spaces_after}
use Rattle.meaning.specs.Words.{Drawn, drawn, glues}
use Rattle.meaning.specs.LineIter.{leading_on, skips, moved_on, used_up, after_word}
use Rattle.meaning.specs.declared.settings.Settings.{Settings}
use Rattle.meaning.specs.declared.cursor.Spaces.{Spaces}
use Rattle.meaning.specs.declared.cursor.Place.{Place}
use Rattle.meaning.specs.declared.line.EventKind.TheVariants.{Space}
use Rattle.laws.specs.Measuring.{spaces-after}
use Rattle.laws.specs.Pens.{Plain, plain-after, plain-width}
use Rattle.laws.specs.EvenSpaces.{spaces-more}
use Rattle.laws.specs.LastPrint.{if_more, to_last_print, width_of, counted_in, counted_append}
use Rattle.evenness.specs.PrintEnds.{AnyDrawn}
use Rattle.evenness.specs.PrintedWords.{width_append, print_behind}

-- What a measure found, and the spaces of the draw: of the measured width and count, these take the room.
pub record Spread (s : Settings) : Type 0 where
  pub spaces : Spaces
  pub count : ℕ
  pub width : ℕ
  pub some : 1 ≤ s.glyph.0
  pub wide : s.glyph.0 ≤ spaces.width.0
  pub room : spaces_width spaces count + width ≡ count * s.glyph.0 + s.width.0

module _ (s : Settings) (m : Spread s) where
  -- The draw's spaces at the line's start; the measured count and width.
  abbrev J : Spaces
  J = m.spaces

  abbrev N : ℕ
  N = m.count

  abbrev width : ℕ
  width = m.width

  abbrev g : ℕ
  g = s.glyph.0

  -- Spaces of the draw are no narrower than glyphs.
  pub no_narrower : (k n : ℕ) → n * g ≤ spaces_width (spaces_after J k) n
  unfolding spaces_width spaces_after
  no_narrower k n = omega (arith, mul-le-mul_left n m.wide)

  -- The two passes stand at the same token, after k counted spaces: the draw further on, by no more than its spaces are wider.
  pub record Beside (p q : Place) (k : ℕ) : Type 0 where
    pub box : p.cursor.width.0 ≡ s.width.0
    pub box-drawn : q.cursor.width.0 ≡ s.width.0
    pub empty : p.empty ≡ q.empty
    pub plain : Plain s.glyph.0 p.spaces
    pub spaces : q.spaces ≡ spaces_after J k
    pub ahead : p.cursor.position.0 ≤ q.cursor.position.0
    pub by : q.cursor.position.0 + k * s.glyph.0 ≤ p.cursor.position.0 + spaces_width J k

  -- From here the measure prints nothing more, or up to the last print goes on to its width and its count.
  abbrev pub Onward : (x k : ℕ) → List Drawn → Type 0
  Onward x k ds = (to_last_print ds ≡ []) ⊎ ((x + width_of (to_last_print ds) ≡ width) × (k + counted_in (to_last_print ds) ≡ N))

  onward_if : (x k n w : ℕ) (d : Drawn) (X : List Drawn) → d.width ≡ w → d.count ≡ n
      → (if_more d X ≡ []) ⊎ ((x + width_of (if_more d X) ≡ width) × (k + counted_in (if_more d X) ≡ N))
      → (X ≡ []) ⊎ ((x + w + width_of X ≡ width) × (k + n + counted_in X ≡ N))
  unfolding if_more width_of counted_in
  onward_if x k n w d [] a b h = inl refl
  onward_if x k n w d (y ∷ X) a b (inl e) = absurd (cons≢nil e)
  onward_if x k n w d (y ∷ X) a b (inr e) = inr (omega (arith, e.0, a), omega (arith, e.1, b))

  pub onward-space : (x k from to n w : ℕ) (more : List Drawn) → Onward x k (drawn Space from to n w ∷ more) → Onward (x + w) (k + n) more
  unfolding to_last_print
  onward-space x k from to n w more h = onward_if x k n w (drawn Space from to n w) (to_last_print more) refl refl h

  -- Of a word that is printed.
  pub record OnWord (x k w n : ℕ) (more : List Drawn) : Type 0 where
    pub width-by : x + w ≤ width
    pub count_by : k + n ≤ N
    pub onward : Onward (x + w) (k + n) more

  some-not_nil : (ds es : List Drawn) → AnyDrawn ds → ds ++ es ≡ [] → ⊥
  some-not_nil [] es h e = h
  some-not_nil (d ∷ ds) es h e = cons≢nil e

  pub onward-word : (x k : ℕ) (ds more : List Drawn) → to_last_print ds ≡ ds → AnyDrawn ds → Onward x k (ds ++ more) → OnWord x k (width_of ds) (counted_in ds) more
  onward-word x k ds more a b (inl e) = absurd (some-not_nil ds (to_last_print more) b (sym (print_behind ds more a) ∙ e))
  onward-word x k ds more a b (inr e) =
      let same = print_behind ds more a in
      let w : x + width_of ds + width_of (to_last_print more) ≡ width =
      omega (arith, ap width_of same, width_append ds (to_last_print more), e.0) in
      let n : k + counted_in ds + counted_in (to_last_print more) ≡ N =
      omega (arith, ap counted_in same, counted_append ds (to_last_print more), e.1) in
      record { width-by = omega (arith, w); count_by = omega (arith, n); onward = inr (w, n) }

  -- Up to the measured count the draw is further on by no more than the room.
  module _ (p q : Place) (k : ℕ) (b : Beside p q k) where
    more-wide : k ≤ N → spaces_width J k + N * g ≤ spaces_width J N + k * g
    more-wide h =
        let d = N - k in
        let e : k + d ≡ N = omega arith in
        omega (
          arith,
          ap (λ (n : ℕ). spaces_width J n) e,
          spaces-more J k d,
          no_narrower k d,
          ap (λ (n : ℕ). n * g) e,
          add-mul k d g,
        )

    pub room-left : k ≤ N → q.cursor.position.0 + width ≤ p.cursor.position.0 + s.width.0
    room-left h = omega (arith, b.by, more-wide h, m.room)

    -- So the draw still has room for what the measure goes on by.
    pub has_room : (w : ℕ) → k ≤ N → p.cursor.position.0 + w ≤ width → fits_in q.cursor w ≡ true
    unfolding fits_in room_of
    has_room w h f = le-leb w (q.cursor.width.0 - q.cursor.position.0) (omega (arith, room-left h, f, b.box-drawn))

    -- And has none for what has none in the measure.
    pub has_none : (v w : ℕ) → v ≤ w → fits_in p.cursor v ≡ false → fits_in q.cursor w ≡ false
    unfolding fits_in room_of
    has_none v w h f =
        lt-leb w (q.cursor.width.0 - q.cursor.position.0)
        (omega (arith, leb-false v (p.cursor.width.0 - p.cursor.position.0) f, h, b.ahead, b.box, b.box-drawn))

    -- ---- the next token

    spaces-on : (n : ℕ) → spaces_after q.spaces n ≡ spaces_after J (k + n)
    spaces-on n = ap (λ (x : Spaces). spaces_after x n) b.spaces ∙ spaces-after J k n

    -- The measure goes on by a and the draw by c, having counted n more.
    beside_on : (e f : Bool) (n a c : ℕ) → e ≡ f → a ≤ c → c + n * g ≤ a + spaces_width (spaces_after J k) n
        → Beside (record { cursor = advance p.cursor a; spaces = spaces_after p.spaces n; empty = e })
        (record { cursor = advance q.cursor c; spaces = spaces_after q.spaces n; empty = f }) (k + n)
    unfolding advance
    beside_on e f n a c same h i =
        record {
          box = b.box;
          box-drawn = b.box-drawn;
          empty = same;
          plain = plain-after g p.spaces n b.plain;
          spaces = spaces-on n;
          ahead = omega (arith, b.ahead);
          by = omega (arith, b.by, i, spaces-more J k n, add-mul k n g);
        }

    pub beside_skipped : (n : ℕ) → Beside (used_up p n) (used_up q n) (k + n)
    beside_skipped n =
        record {
          box = b.box;
          box-drawn = b.box-drawn;
          empty = b.empty;
          plain = plain-after g p.spaces n b.plain;
          spaces = spaces-on n;
          ahead = b.ahead;
          by = omega (arith, b.by, no_narrower k n, spaces-more J k n, add-mul k n g);
        }

    pub measured-wide : (n : ℕ) → spaces_width p.spaces n ≡ n * g
    measured-wide n = plain-width g p.spaces n b.plain

    pub drawn-wide : (n : ℕ) → spaces_width q.spaces n ≡ spaces_width (spaces_after J k) n
    drawn-wide n = ap (λ (x : Spaces). spaces_width x n) b.spaces

    pub beside_space : (n : ℕ) → Beside (moved_on (used_up p n) (spaces_width p.spaces n)) (moved_on (used_up q n) (spaces_width q.spaces n)) (k + n)
    beside_space n =
        beside_on p.empty q.empty n (spaces_width p.spaces n) (spaces_width q.spaces n) b.empty
        (omega (arith, measured-wide n, drawn-wide n, no_narrower k n)) (omega (arith, measured-wide n, drawn-wide n))

    pub beside_word : (cs : List ℕ) → Beside (after_word s p cs) (after_word s q cs) (k + glues cs)
    beside_word cs = beside_on false false (glues cs) (length cs * g) (length cs * g) refl (omega arith) (omega (arith, no_narrower k (glues cs)))

    -- Both skip, or neither does.
    pub skip-alike : skips s p ≡ skips s q
    unfolding skips
    skip-alike = ap (λ (x : Bool). x && not (leading_on s)) b.empty

  -- Spaces that the measure prints something behind have room in the draw.
  pub fits-behind : (p q : Place) (k n : ℕ) → Beside p q k → k + n ≤ N → p.cursor.position.0 + spaces_width p.spaces n ≤ width
      → fits_in q.cursor (spaces_width q.spaces n) ≡ true
  unfolding fits_in room_of advance
  fits-behind p q k n b h f =
      let w = spaces_width q.spaces n in
      le-leb w (q.cursor.width.0 - q.cursor.position.0)
      (omega (
        arith,
        room-left (moved_on (used_up p n) (spaces_width p.spaces n)) (moved_on (used_up q n) w) (k + n) (beside_space p q k b n) h,
        f,
        b.box-drawn,
      ))
