-- The loop that counts a line's words: its start, its turn and where it stops.
-- Assumes nothing.
use mathlib.Core.Path.{◌≡◌, refl}
use mathlib.Core.List.{List}
use Prim.Native.Nat.{ℕ, ◌+◌, ◌-◌, ◌*◌, ◌/◌, ◌≤◌, ◌<◌}
use native.Mathlib.Nat.{add-mul, mul-le-mul_right, div-mul-le_self, div-lt_iff_lt-mul}
use native.Mathlib.Omega.{arith}
use lib.ListN.{length}
use Rattle.meaning.specs.SpaceConfig.{spaces_width}
use Rattle.meaning.specs.Alignment.{plain_spaces}
use Rattle.meaning.specs.declared.settings.Settings.{Settings}
use Rattle.meaning.specs.declared.counts.Offset.{Offset}
use Rattle.parser.specs.Scanning.{word_of}
use Rattle.pairs.specs.Pairs.{one_space, PairAt}
use Rattle.pairs.specs.Within.{FirstWord}
use Rattle.parser.specs.declared.scan.Scanned.{Scanned}
use Rattle.steps.specs.Unrolled.{nothing_resumed}
use Rattle.placing.specs.Laying.{LineReady}
use Rattle.strides.specs.Strides.{waiting_at}
use Rattle.placing.specs.Quick.{Counting, counted_at, CountedWords}
use Rattle.strides.specs.declared.going.Waiting.{Waiting}
use Rattle.placing.specs.declared.quick.Counted.{Counted}
use Rattle.steps.specs.WordLaws.{word-at}
use Rattle.strides.specs.OnwardLaws.{read-pending}
use Rattle.placing.proofs.CountLaws.{counts-first, counts-more}

pub most-within : (width glyph most columns : ℕ) → most ≡ width / glyph → columns ≤ most → columns * glyph ≤ width
most-within width glyph most columns is h =
    let low : columns * glyph ≤ width / glyph * glyph = mul-le-mul_right glyph (rw is at h) in
    omega (arith, div-mul-le_self width glyph)

pub most-over : (width glyph most columns : ℕ) → 1 ≤ glyph → most ≡ width / glyph → most < columns → width < columns * glyph
most-over width glyph most columns g is h = (div-lt_iff_lt-mul g).0 (rw is at h)

-- A pair lies in the text.
pub pair-within : {t : List ℕ} {to from looked : ℕ} (w : Scanned) → PairAt t to from looked (word_of w)
    → (to + 1 ≤ w.end.0) × (w.end.0 ≤ length t) × (w.chars.0 ≤ length t) × (w.weight.0 ≤ length t)
unfolding word_of
pair-within {t} {to} {from} {looked} w d =
    let x = word_of w in
    let h = (read-pending t from x d.word).stands in
    let k = word-at t from x h d.kind in
    let y = (read-pending t to (one_space from looked) d.space).stands in
    omega (arith, h.within, h.longer, y.longer, k.few, k.fewer)

module _ {t : List ℕ} {at most : ℕ} where
  pub counting-first : (w : Scanned) → FirstWord t at most w → Counting t at most w.end.0 w.chars.0 w.weight.0
  unfolding word_of
  counting-first w f =
      record {
        counts = λ s h is.
            counts-first h (word_of w) f.read refl w.chars.0 w.weight.0 w.end.0 refl refl refl
            (most-within s.width.0 s.glyph.0 most w.chars.0 is f.fits);
        fits = f.fits;
      }

  pub counting_more : {to columns spaces from looked : ℕ} (w : Scanned) → PairAt t to from looked (word_of w) → Counting t at most to columns spaces
      → w.chars.0 < most - columns → Counting t at most w.end.0 (columns + (1 + w.chars.0)) (spaces + (1 + w.weight.0))
  unfolding word_of
  counting_more {columns = columns} {spaces} w d c h =
      let fits : columns + (1 + w.chars.0) ≤ most = omega arith in
      record {
        counts = λ s r is.
            counts-more d columns spaces (c.counts s r is)
            (most-within s.width.0 s.glyph.0 most (columns + (1 + w.chars.0)) is fits);
        fits = fits;
      }

  -- ---- where it stops

  module _ {s : Settings} (h : LineReady s t at nothing_resumed) (is : most ≡ s.width.0 / s.glyph.0) {to columns spaces : ℕ}
      (c : Counting t at most to columns spaces)
    where
      counted-within : columns * s.glyph.0 ≤ s.width.0
      counted-within = most-within s.width.0 s.glyph.0 most columns is c.fits

      pub counting-ends : (v : Waiting) (r : Counted) → v ≡ waiting_at 0 0 0 → r ≡ counted_at to columns spaces v → CountedWords s t at r
      unfolding counted_at waiting_at
      counting-ends v r a b =
          rw (b, a) (record { counts = c.counts s h is; within = counted-within; waits = λ d. absurd (d refl) })

      pub counting-waits : (next looked : Offset) (w : Scanned) → PairAt t to next.0 looked.0 (word_of w) → most - columns ≤ w.chars.0 → (r : Counted)
          → r ≡ counted_at to columns spaces (record { next = next; looked = looked; reach = w.reach }) → CountedWords s t at r
      unfolding counted_at word_of spaces_width plain_spaces
      counting-waits next looked w d k r b =
          let n = w.chars.0 in
          let g = s.glyph.0 in
          let over : s.width.0 < (columns + (1 + n)) * g = most-over s.width.0 g most (columns + (1 + n)) h.settings.0 is (omega (arith, c.fits)) in
          rw b
          (record {
            counts = c.counts s h is;
            within = counted-within;
            waits = λ _. record {
              word = word_of w;
              pair = d;
              reach = refl;
              empty = refl;
              over = omega (arith, add-mul columns (1 + n) g, add-mul 1 n g);
            };
          })
