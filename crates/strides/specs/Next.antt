-- One space and the word behind it: what becomes of them where a pass stands in a line that is not empty.
-- Assumes nothing.
use Rattle.std.specs.Prelude.{◌≡◌, false, List, ℕ, ◌+◌, ◌-◌, ◌*◌, ◌≤◌, ltb}
use Rattle.basis.specs.Choice.{pick}
use Rattle.meaning.specs.Cursor.{room_of}
use Rattle.meaning.specs.SpaceConfig.{spaces_width, spaces_after}
use Rattle.meaning.specs.Line.{unmeasured}
use Rattle.meaning.specs.declared.settings.Settings.{Settings}
use Rattle.meaning.specs.declared.cursor.Place.{Place}
use Rattle.meaning.specs.declared.line.Measure.{Measure}
use Rattle.laws.specs.Measuring.{printed_at}
use Rattle.parser.specs.Scanning.{word_of, scanned_at}
use Rattle.pairs.specs.Pairs.{PairAt}
use Rattle.pairs.specs.declared.pair.Pair.{Pair}
use Rattle.moves.specs.Fine.{FineSpaces}
use Rattle.steps.specs.Unrolled.{nothing_resumed}
use Rattle.steps.specs.Running.{PassReady}
use Rattle.steps.specs.Stopping.{word_measure}
use Rattle.strides.specs.Strides.{waiting_at, strode_place, Waits}
use Rattle.strides.specs.declared.next.Taken.{Taken}
use Rattle.strides.specs.declared.next.Next.{Next}
use Rattle.strides.specs.declared.next.Next.TheVariants.{Nothing, TooWide, Fits}

-- A pair was read at a position.
abbrev pub Read : List ℕ → ℕ → Pair → Type 0
Read t at x = PairAt t at x.from.0 x.looked.0 (word_of x.word)

-- One space, and a plain word behind it to an end, as they are read.
unfoldable pub plain_pair : (at end : ℕ) → Pair
plain_pair at end =
    record { from = record { 0 = at + 1 }; looked = record { 0 = at + 1 + 1 }; word = scanned_at end (end - (at + 1)) 0 1 }

-- The width of both.
abbrev pub both_wide : Settings → Place → Pair → ℕ
both_wide s p x = spaces_width p.spaces 1 + x.word.chars.0 * s.glyph.0

abbrev pub taken_of : Settings → Place → Pair → Taken
taken_of s p x =
    record {
      from = x.from;
      word = x.word;
      space = record { 0 = spaces_width p.spaces 1 };
      left = spaces_after p.spaces 1;
      place = strode_place p (p.cursor.position.0 + both_wide s p x) (spaces_after (spaces_after p.spaces 1) x.word.weight.0).extra.0;
    }

-- Both are taken if both fit, else the word waits.
unfoldable pub fitted_of : Settings → Place → Pair → Next
fitted_of s p x =
    pick (ltb (room_of p.cursor) (both_wide s p x)) (TooWide (waiting_at x.from.0 x.looked.0 x.word.reach.0)) (Fits (taken_of s p x))

-- What is measured after both.
abbrev pub taken_measure : Settings → Measure → Taken → Measure
taken_measure s m x =
    word_measure s.glyph.0 x.left (printed_at (m.pen.0 + x.space.0) (m.spaces.0 + 1)) x.word.chars.0 x.word.weight.0

-- What that takes for granted.
pub record MeasureReady (s : Settings) (m : Measure) (x : Taken) : Type 0 where
  pub spaces : FineSpaces x.left
  pub glyph : s.glyph.0 ≤ 64
  pub many : x.word.chars.0 ≤ 65535
  pub fewer : x.word.weight.0 ≤ x.word.chars.0
  pub pen : m.pen.0 + x.space.0 ≤ 8192 * 65535
  pub count : m.spaces.0 + 1 ≤ 65535

-- A pair that stands there, and that fits.
pub record Taking (s : Settings) (p : Place) (t : List ℕ) (at : ℕ) (x : Taken) : Type 0 where
  pub pair : Pair
  pub read : Read t at pair
  pub empty : p.empty ≡ false
  pub fits : both_wide s p pair ≤ p.cursor.width.0 - p.cursor.position.0
  pub is : x ≡ taken_of s p pair

-- What a decision says of the text.
abbrev pub Decides : Settings → Place → List ℕ → ℕ → Next → Type 0
Decides s p t at Nothing = Unit {0}
Decides s p t at (TooWide w) = Waits s p t at w
Decides s p t at (Fits x) = Taking s p t at x

-- What a decision takes for granted. Whatever was measured so far, it is the same.
abbrev pub DecideReady : Settings → Place → List ℕ → ℕ → Type 0
DecideReady s p t at = PassReady s p t at nothing_resumed unmeasured × (p.empty ≡ false)
