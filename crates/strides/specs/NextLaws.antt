-- One space and the word behind it: what their numbers are, what is decided of them, and where a pass stands after both.
-- Assumes nothing.
use Rattle.std.specs.Prelude.{◌≡◌, refl, false, List, ℕ, ◌+◌, ◌-◌, ◌*◌, ◌≤◌, ◌<◌, ltb}
use Rattle.std.proofs.Common.{sym, ap, ltb-true, ltb-false, lt-ltb, le-ltb}
use Rattle.std.proofs.Math.Path.{subst}
use native.Mathlib.Omega.{arith}
use Rattle.basis.specs.Choice.{pick, pick_cases}
use Rattle.meaning.specs.Cursor.{placed_at, room_of, advance}
use Rattle.meaning.specs.SpaceConfig.{spaces_width, spaces_after}
use Rattle.meaning.specs.declared.settings.Settings.{Settings}
use Rattle.meaning.specs.declared.cursor.Spaces.{Spaces}
use Rattle.meaning.specs.declared.cursor.Place.{Place}
use Rattle.meaning.specs.declared.line.Measure.{Measure}
use Rattle.parser.specs.Scanning.{word_of, scanned_at}
use Rattle.pairs.specs.Pairs.{one_space}
use Rattle.pairs.specs.declared.pair.Pair.{Pair}
use Rattle.steps.specs.Unrolled.{nothing_resumed}
use Rattle.moves.specs.FineLaws.{spaces_fine}
use Rattle.steps.specs.Running.{PassReady}
use Rattle.steps.specs.Stopping.{word_measure, word_place}
use Rattle.steps.specs.WordLaws.{word-at}
use Rattle.pairs.specs.PlainWords.{Stride}
use Rattle.strides.specs.Strides.{waiting_at, strode_place, Onward}
use Rattle.strides.specs.Next.{Read, plain_pair, both_wide, fitted_of, taken_measure, MeasureReady, Taking, Decides, DecideReady}
use Rattle.strides.specs.declared.next.Taken.{Taken}
use Rattle.strides.specs.declared.next.Next.TheVariants.{TooWide, Fits}
use Rattle.pairs.specs.PlainLaws.{plain-pair}
use Rattle.strides.specs.OnwardLaws.{read-pending}
use Rattle.strides.specs.StrideLaws.{pair_goes}

-- ---- a pair that was read

pub plain-read : (t : List ℕ) (at end : ℕ) → Stride t at end → (x : Pair) → x ≡ plain_pair at end → Read t at x
unfolding plain_pair scanned_at word_of
plain-read t at end w x e = subst (Read t at) (sym e) (plain-pair t at end w)

module _ {s : Settings} {p : Place} {t : List ℕ} {at : ℕ} {m : Measure} (r : PassReady s p t at nothing_resumed m) (x : Pair) (d : Read t at x) where
  -- They lie in the text.
  pub pair-numbers : (at < x.from.0) × (x.from.0 < x.word.end.0) × (x.word.end.0 ≤ 65535) × (x.word.weight.0 ≤ x.word.chars.0)
      × (x.word.chars.0 ≤ 65535)
  unfolding word_of
  pair-numbers =
      let y = word_of x.word in
      let h = (read-pending t x.from.0 y d.word).stands in
      let k = word-at t x.from.0 y h d.kind in
      let l = (read-pending t at (one_space x.from.0 x.looked.0) d.space).stands in
      omega (arith, r.short, h.within, h.longer, l.longer, k.few, k.fewer)

-- ---- what is decided of it

module _ (s : Settings) (p : Place) (x : Pair) (room : ℕ) (here : room ≡ room_of p.cursor) (single : ℕ) (is : single ≡ spaces_width p.spaces 1) where
  pub fitted-waits : room < single + x.word.chars.0 * s.glyph.0 → TooWide (waiting_at x.from.0 x.looked.0 x.word.reach.0) ≡ fitted_of s p x
  unfolding fitted_of pick
  fitted-waits h = rw (lt-ltb (room_of p.cursor) (both_wide s p x) (omega (arith, here, is)))

  pub fitted-takes : single + x.word.chars.0 * s.glyph.0 ≤ room → (left : Spaces) → left ≡ spaces_after p.spaces 1
      → (more : Spaces) → more ≡ spaces_after left x.word.weight.0
      → (q : Place) → q ≡ strode_place p (p.cursor.position.0 + (single + x.word.chars.0 * s.glyph.0)) more.extra.0
      → Fits (record { from = x.from; word = x.word; space = record { 0 = single }; left = left; place = q }) ≡ fitted_of s p x
  unfolding fitted_of pick
  fitted-takes h left a more b q c = rw (le-ltb (room_of p.cursor) (both_wide s p x) (omega (arith, here, is)), c, b, a, is)

pub fitted_decides : {s : Settings} {p : Place} {t : List ℕ} {at : ℕ} → DecideReady s p t at → (x : Pair) → Read t at x → Decides s p t at (fitted_of s p x)
unfolding fitted_of word_of room_of waiting_at
fitted_decides {s} {p} {t} {at} h x d =
    let room = p.cursor.width.0 - p.cursor.position.0 in
    pick_cases (Decides s p t at) (ltb room (both_wide s p x))
    (λ e.
    let over = ltb-true room (both_wide s p x) e in
    record { word = word_of x.word; pair = d; reach = refl; empty = h.1; over = omega (arith, h.0.place) })
    (λ e. record { pair = x; read = d; empty = h.1; fits = ltb-false room (both_wide s p x) e; is = refl })

-- ---- a pair that is taken

module _ {s : Settings} {p : Place} {t : List ℕ} {at : ℕ} {x : Taken} (k : Taking s p t at x) where
  -- The line is not empty after it.
  pub taken-full : x.place.empty ≡ false
  taken-full = ap (λ (z : Taken). z.place.empty) k.is

  module _ {m : Measure} (r : PassReady s p t at nothing_resumed m) where
    pub taken-numbers : (at < x.word.end.0) × (x.word.end.0 ≤ 65535)
    taken-numbers =
        subst (λ (z : Taken). (at < z.word.end.0) × (z.word.end.0 ≤ 65535)) (sym k.is) (omega (arith, pair-numbers r k.pair k.read))

    pub taken-ready : MeasureReady s m x
    unfolding spaces_width
    taken-ready =
        let n = pair-numbers r k.pair k.read in
        subst (MeasureReady s m) (sym k.is)
        (record {
          spaces = spaces_fine p.spaces 1 r.place.1;
          glyph = r.settings.1;
          many = n.4;
          fewer = n.3;
          pen = omega (arith, r.place, r.small, n);
          count = omega (arith, r.small, n);
        })

    -- The pass from after both is the whole pass.
    pub taken-onward : Onward s p t at nothing_resumed m x.place x.word.end.0 (taken_measure s m x)
    unfolding word_of spaces_after advance word_place word_measure
    taken-onward =
        let y = k.pair in
        let c : p.cursor.position.0 + both_wide s p y ≡ p.cursor.position.0 + spaces_width p.spaces 1 + y.word.chars.0 * s.glyph.0 = omega arith in
        subst (λ (z : Taken). Onward s p t at nothing_resumed m z.place z.word.end.0 (taken_measure s m z)) (sym k.is)
        (pair_goes r k.empty k.read k.fits _ _
        (λ i. record {
          cursor = placed_at p.cursor (c i);
          spaces = spaces_after (spaces_after p.spaces 1) y.word.weight.0;
          empty = false;
        })
        refl)
