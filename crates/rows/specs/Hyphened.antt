-- A pass over a line that begins with a soft hyphen whose "-" leaves no room for a character of the word behind it (rule 8).
-- Assumes nothing.
use Rattle.std.specs.Prelude.{ℕ, ◌+◌, ◌≤◌, ◌<◌, ◌≡◌, true, List, None, Option, Some}
use Rattle.steps.specs.declared.step.Ended.{Ended}
use Rattle.meaning.specs.Cursor.{room_of}
use Rattle.meaning.specs.Line.{unmeasured}
use Rattle.meaning.specs.declared.settings.Settings.{Settings}
use Rattle.meaning.specs.declared.cursor.Place.{Place}
use Rattle.parser.specs.Marks.{Mark}
use Rattle.steps.specs.Stepping.{ran_from}
use Rattle.steps.specs.Running.{PassReady}
use Rattle.steps.specs.Unrolled.{nothing_resumed}
use Rattle.steps.specs.declared.step.Resumed.{Resumed}

-- A pass starts there: the line is empty, and the cursor has not left its starting place.
pub record Starts (s : Settings) (p : Place) (t : List ℕ) (at : ℕ) (r : Resumed) : Type 0 where
  pub ready : PassReady s p t at r unmeasured
  pub empty : p.empty ≡ true
  pub stays : p.cursor.position.0 ≡ p.cursor.start.0

abbrev pub HyphenedIs : Settings → Place → List ℕ → (at : ℕ) → Resumed → Option Ended → Type 0
HyphenedIs s p t at r None = Unit {0}
HyphenedIs s p t at r (Some e) = e ≡ ran_from s p t at r.chars.0 r.count.0 unmeasured

-- A soft hyphen stands there, and nothing is resumed.
pub record Dashes (s : Settings) (p : Place) (t : List ℕ) (at : ℕ) : Type 0 where
  pub starts : Starts s p t at nothing_resumed
  pub hyphen : Mark t at 2
  pub shown : s.glyph.0 ≤ room_of p.cursor
  pub over : room_of p.cursor < s.glyph.0 + s.glyph.0

abbrev pub DashedIs : Settings → Place → List ℕ → (at : ℕ) → Option Ended → Type 0
DashedIs s p t at = HyphenedIs s p t at nothing_resumed
